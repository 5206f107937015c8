-- `storing::store` meets its contract: the invariant is that the matrix has the bits of the records passed. Assumes nothing.
use mathlib.Core.Path.{◌≡◌}
use lib.ListN.{length}
use Rattle.closure.proofs.StoringLaws.{sets, Storing}
use Rattle.closure.proofs.storing.store.Given as goal

abbrev pub invariant-loop-i : goal.invariant-loop-i
invariant-loop-i l =
    (length l.m ≡ 65536) × Storing l.n l.run l.kind (sets l.straight l.swapped) l.m l.i
