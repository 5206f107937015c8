-- `containment::ends_by` meets its contract: as many places have their ends as ones were read. Assumes nothing.
use mathlib.Core.Path.{◌≡◌}
use Prim.Native.Nat.{ℕ, ◌-◌, ◌*◌, ◌<◌, ◌≤◌}
use lib.ListN.{length, get_or}
use Rattle.parentheses.specs.Bits.{bits}
use Rattle.parentheses.specs.Rank.{rank}
use Rattle.parentheses.specs.Subtree.{after}
use Rattle.containment.proofs.ends_by.Given as goal

abbrev pub invariant-loop-q : goal.invariant-loop-q
invariant-loop-q l =
    (l.q ≤ l.nodes) × (l.p ≤ 8 * length l.parens) × (length l.ends ≡ length l.initial.ends) × (rank (bits l.parens) l.p ≡ l.q) × ((s : ℕ) → s < l.q → get_or l.ends s 0 ≡ after (bits l.parens) s)

abbrev pub decreases-loop-q : goal.decreases-loop-q
decreases-loop-q l = 8 * length l.parens - l.p
