-- `parentheses::search` meets its contract: `d` is the depth before `q`, and what is sought is what a search from there finds. The table's
-- rule is one test over its 256 entries, which antt computes.
-- Assumes nothing.
use mathlib.Core.Path.{◌≡◌}
use Prim.Native.Nat.{◌-◌, ◌*◌, ◌≤◌, ◌<◌}
use lib.ListN.{length}
use Rattle.parentheses.specs.Bits.{bits}
use Rattle.parentheses.specs.Search.{closing}
use Rattle.parentheses.proofs.search.Given as goal

abbrev pub invariant-loop-q : goal.invariant-loop-q
invariant-loop-q l =
    (l.q ≤ 8 * length l.bytes) × (0 < l.d) × (l.d ≤ l.q) × (closing (bits l.bytes) l.q l.d ≡ closing (bits l.bytes) l.p l.depth)

abbrev pub decreases-loop-q : goal.decreases-loop-q
decreases-loop-q l = 8 * length l.bytes - l.q
