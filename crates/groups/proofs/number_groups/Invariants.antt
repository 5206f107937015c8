-- `groups::number_groups` meets its contract. Assumes nothing.
use mathlib.Core.Path.{◌≡◌}
use Prim.Native.Nat.{◌≤◌}
use lib.ListN.{length, get_or}
use Rattle.groups.proofs.Ranking.{Ranking}
use Rattle.groups.proofs.number_groups.Given as goal

abbrev pub invariant-loop-g : goal.invariant-loop-g
invariant-loop-g l =
    ((l.n ≤ 2048) × (l.g ≤ l.n) × (l.k ≤ l.g) × (length l.number ≡ 2048) × (length l.lead ≡ 2048) × (length l.heads ≡ 2048)) × Ranking l.n (λ x. get_or l.done x 0) l.number l.lead l.heads l.k l.g
