-- `change_pages::settle` meets its contract. Assumes nothing.
use mathlib.Core.Path.{refl, sym}
use lib.Seq.{length-take-le}
use Rattle.change_pages.proofs.Mades.{made_as, made_none}
use Rattle.change_pages.proofs.Books.{judged-refused, judged-accepted}
use Rattle.change_pages.proofs.settle.Goals as goal

pub slice_bounds-judge-end : goal.slice_bounds-judge-end
slice_bounds-judge-end c = sym (length-take-le _ _ c.requires)

pub accept-requires : goal.accept-requires
accept-requires c = c.requires

pub returns-in-Err : goal.returns-in-Err
returns-in-Err c =
    made_none _ _ _ _ _ (made_as (judged-refused _ _ _ c.in-Err.ensures _ _ refl) c.refuse.ensures)

pub returns-in-Ok : goal.returns-in-Ok
returns-in-Ok c = made_as (judged-accepted _ _ _ c.in-Ok.ensures _ refl) c.accept.ensures
