-- `ranges::first_row` meets its contract: the invariant is that the rows below `low` are lower. Assumes nothing.
use Prim.Native.Nat.{ℕ, ◌≤◌, ◌<◌, ◌-◌, ◌*◌}
use lib.ListN.{get_or}
use Rattle.areas.specs.Between.{RowsRise}
use Rattle.areas.proofs.ranges.first_row.Given as goal

abbrev pub invariant-loop-low : goal.invariant-loop-low
invariant-loop-low l =
    (l.low ≤ l.high) × (l.high ≤ l.count) × (RowsRise l.area l.count → (i : ℕ) → i < l.low → get_or l.area (2 * i) 0 < l.row.0)

abbrev pub decreases-loop-low : goal.decreases-loop-low
decreases-loop-low l = l.high - l.low
