-- `books::settle_in` meets its contract. Assumes nothing.
use mathlib.Core.Path.{refl, ap}
use Rattle.outcomes.specs.Fresh.{uncounted}
use Rattle.claims.proofs.Counts.{own-count}
use Rattle.answers.proofs.Judges.{refuses, accepts}
use Rattle.answers.proofs.books.settle_in.Goals as goal

pub returns-in-Err : goal.returns-in-Err
unfolding uncounted
returns-in-Err c =
    rw c.from.ensures (ap uncounted (refuses _ _ (own-count c.requires) _ (rw c.settle_book.ensures.0.1 at (c.settle_book.ensures.1.clash _ c.in-Err.is))))

pub returns-in-Ok : goal.returns-in-Ok
unfolding uncounted
returns-in-Ok c =
    ap uncounted (accepts _ _ (own-count c.requires) _ _ (rw c.settle_book.ensures.0.1 at (c.settle_book.ensures.1.free c.in-Ok.is).is) refl refl)
