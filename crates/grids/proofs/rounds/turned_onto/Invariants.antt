use Prim.Native.Nat.{ℕ, ◌<◌}
use mathlib.Core.Path.{◌≡◌}
use mathlib.Core.Bool.{◌||◌}
use lib.ListN.{length, get_or}
use Rattle.matrices.specs.Matrix.{bit}
use Rattle.grids.specs.Grid.{bit_at}
use Rattle.grids.proofs.rounds.turned_onto.Given as goal

abbrev pub invariant-loop-g : goal.invariant-loop-g
invariant-loop-g l =
    (length l.r ≡ 64) × ((a : ℕ) → a < l.g → (k : ℕ) → k < 64 → bit (get_or l.r a 0) k ≡ (bit_at l.y a k || bit_at l.x k a))
