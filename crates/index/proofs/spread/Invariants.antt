-- `index::spread` meets its contract: the parts of c below `p` are met, and `p` is the next one.
-- Assumes nothing.
use mathlib.Core.Path.{◌≡◌}
use mathlib.Core.Bool.{true}
use Prim.Native.Nat.{◌-◌, ◌≤◌, ◌<◌}
use Rattle.index.specs.Matrix.{pair_of}
use Rattle.index.proofs.Queue.{Spreading}
use Rattle.index.proofs.spread.Given as goal

abbrev pub invariant-loop-p : goal.invariant-loop-p
invariant-loop-p l =
    (l.p ≤ 2048) × Spreading l.n (pair_of l.n l.edges) l.c l.initial.parent l.initial.order l.tail l.parent l.order l.end l.p × (l.p < l.n → pair_of l.n l.edges l.p l.c ≡ true)

abbrev pub decreases-loop-p : goal.decreases-loop-p
decreases-loop-p l = 2048 - l.p
