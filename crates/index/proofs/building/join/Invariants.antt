-- `building::join` meets its contract: the joins of the pieces below `p` are made.
-- Assumes nothing.
use mathlib.Core.Path.{◌≡◌}
use Prim.Native.Nat.{◌≤◌}
use lib.ListN.{length}
use Rattle.index.proofs.Joins.{Joining}
use Rattle.index.proofs.building.join.Given as goal

abbrev pub invariant-loop-p : goal.invariant-loop-p
invariant-loop-p l = (1 ≤ l.p) × (l.p ≤ l.n) × (length l.edges ≡ length l.initial.edges) × Joining l.n l.initial.edges l.edges l.p
