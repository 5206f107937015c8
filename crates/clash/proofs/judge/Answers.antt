-- `clash::judge` meets its contract. Assumes nothing.
use mathlib.Core.Path.{refl}
use Rattle.clash.proofs.Replies.{placed, judged-clash, judged-free}
use borrow.Author.Rules.{rules}
use Rattle.clash.proofs.judge.Goals as goal

pub settle_book-requires : goal.settle_book-requires
settle_book-requires c = (c.requires.0, search rules)

pub write_behind-requires : goal.write_behind-requires
write_behind-requires c =
    (placed _ _ c.requires.0 c.settle_book.ensures.0 _ (c.in-Err.ensures.1.clash _ refl), c.requires.1)

pub returns-in-Ok : goal.returns-in-Ok
returns-in-Ok c =
    judged-free _ _ c.requires.1 _ c.requires.0 c.settle_book.ensures.0 (c.in-Ok.ensures.1.free refl)

pub returns-in-Err : goal.returns-in-Err
returns-in-Err c =
    rw c.from.ensures (judged-clash _ _ c.requires.1 _ c.requires.0 c.settle_book.ensures.0 _ (c.in-Err.ensures.1.clash _ refl) c.write_behind.ensures)
