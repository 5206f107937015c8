-- `parentheses::above_lowest` meets its contract.
-- Assumes nothing.
use Prim.Native.Nat.{◌+◌, ◌*◌, ◌≤◌, ◌<◌}
use Rattle.parentheses.specs.Bits.{bits}
use Rattle.parentheses.specs.Rank.{rank}
use Rattle.parentheses.specs.Search.{Stays}
use Rattle.parentheses.proofs.above_lowest.Given as goal

abbrev pub invariant-loop-m : goal.invariant-loop-m
invariant-loop-m l =
    (0 < l.floor) × (l.floor ≤ 64 + l.m) × (l.floor + 8 * l.m + 2 * rank (bits l.bytes) (8 * l.i) ≤ l.depth + 2 * rank (bits l.bytes) (8 * l.i + 8 * l.m))
    × Stays (bits l.bytes) (8 * l.i) (8 * l.m) l.depth
