-- `marking::mark_voids` meets its contract: the invariant is that the row has the marks of the records passed. Assumes nothing.
use mathlib.Core.Path.{◌≡◌}
use lib.ListN.{length}
use Rattle.closure.proofs.VoidRows.{Marking}
use Rattle.closure.proofs.marking.mark_voids.Given as goal

abbrev pub invariant-loop-i : goal.invariant-loop-i
invariant-loop-i l = (length l.voids ≡ 32) × Marking l.book l.voids l.i
