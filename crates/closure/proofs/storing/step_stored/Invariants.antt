-- `storing::step_stored` meets its contract: the invariant is that the matrix has the steps of the records passed. Assumes nothing.
use mathlib.Core.Path.{◌≡◌}
use lib.ListN.{length}
use Rattle.closure.specs.Stored.{stepping}
use Rattle.closure.proofs.StoringLaws.{Storing}
use Rattle.closure.proofs.storing.step_stored.Given as goal

abbrev pub invariant-loop-i : goal.invariant-loop-i
invariant-loop-i l =
    (length l.e ≡ 65536) × Storing l.n l.run 1 (stepping l.lead) l.e l.i
