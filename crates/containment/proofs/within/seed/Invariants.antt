-- `within::seed` meets its contract: the pieces below g are seeded. Assumes nothing.
use mathlib.Core.Path.{◌≡◌}
use Prim.Native.Nat.{◌≤◌}
use lib.ListN.{length}
use Rattle.containment.specs.Filling.{Seeded}
use Rattle.containment.proofs.within.seed.Given as goal

abbrev pub invariant-loop-g : goal.invariant-loop-g
invariant-loop-g l = (l.g ≤ l.n) × (length l.rows ≡ length l.initial.rows) × Seeded l.n l.g l.lead l.rows
