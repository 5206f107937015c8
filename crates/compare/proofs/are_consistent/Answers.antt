-- `compare::can_be_laid` meets its contract. Assumes nothing.
use mathlib.Core.Path.{ap}
use mathlib.Core.Bool.{not}
use Rattle.compare.proofs.are_consistent.Goals as goal

pub returns : goal.returns
returns c = ap not (rw c.mark_voids.ensures.1 at c.contradicts.ensures)
