-- `clash::check_sound` meets its contract. Assumes nothing.
use mathlib.Core.Path.{refl, ◌∙◌}
use Rattle.clash.proofs.Replies.{placed, checked-clash, checked-free}
use borrow.Author.Rules.{rules}
use Rattle.clash.proofs.check_sound.Goals as goal

pub settle_book-requires : goal.settle_book-requires
settle_book-requires c = (c.requires, search rules)

pub check_behind-requires : goal.check_behind-requires
check_behind-requires c =
    placed _ _ c.requires c.settle_book.ensures.0 _ (c.in-Err.ensures.1.clash _ refl)

pub returns-in-Ok : goal.returns-in-Ok
returns-in-Ok c =
    checked-free _ _ _ c.requires c.settle_book.ensures.0 (c.in-Ok.ensures.1.free refl)

pub returns-in-Err : goal.returns-in-Err
returns-in-Err c =
    c.check_behind.ensures ∙ checked-clash _ _ _ c.requires c.settle_book.ensures.0 _ (c.in-Err.ensures.1.clash _ refl)
