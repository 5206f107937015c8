-- `ranges::in_rows` meets its contract: the invariant is that no pair passed lies inside. Assumes nothing.
use Prim.Native.Nat.{ℕ, ◌<◌, ◌+◌, ◌*◌}
use mathlib.Core.Path.{◌≡◌}
use mathlib.Core.Bool.{false}
use lib.ListN.{get_or}
use Rattle.areas.specs.Between.{inside, RowsRise}
use Rattle.areas.proofs.ranges.in_rows.Given as goal

abbrev pub invariant-loop-i : goal.invariant-loop-i
invariant-loop-i l =
    (RowsRise l.area l.count → (j : ℕ) → j < l.i → inside l.rows.from.0 l.rows.to.0 l.columns.from.0 l.columns.to.0 (get_or l.area (2 * j) 0) (get_or l.area (2 * j + 1) 0) ≡ false)
