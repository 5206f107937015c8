-- `index::search_from` meets its contract: the rounds of the search, one for each piece of the queue.
-- Assumes nothing.
use mathlib.Core.Path.{◌≡◌}
use Prim.Native.Nat.{◌-◌}
use lib.ListN.{length}
use Rattle.index.specs.Matrix.{pair_of}
use Rattle.index.proofs.Rounds.{Round}
use Rattle.index.proofs.search_from.Given as goal

abbrev pub invariant-loop-head : goal.invariant-loop-head
invariant-loop-head l =
    (length l.parent ≡ 2048) × (length l.order ≡ 2048) × Round l.n (pair_of l.n l.edges) l.k l.parent l.order l.head l.tail

abbrev pub decreases-loop-head : goal.decreases-loop-head
decreases-loop-head l = l.n - l.head
