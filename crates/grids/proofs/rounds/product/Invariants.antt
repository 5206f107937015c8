use Prim.Native.Nat.{ℕ, ◌<◌}
use mathlib.Core.Path.{◌≡◌}
use lib.ListN.{length, get_or}
use Rattle.grids.specs.Grid.{Gathered}
use Rattle.grids.proofs.rounds.product.Given as goal

abbrev pub invariant-loop-g : goal.invariant-loop-g
invariant-loop-g l =
    (length l.r ≡ 64) × ((a : ℕ) → a < l.g → Gathered (get_or l.y a 0) (get_or l.x a 0) l.z (get_or l.r a 0))
