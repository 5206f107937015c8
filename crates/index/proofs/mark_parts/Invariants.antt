-- `index::mark_parts` meets its contract: the parts below `p` are marked, and `p` is the next one.
-- Assumes nothing.
use mathlib.Core.Path.{◌≡◌}
use mathlib.Core.Bool.{true}
use Prim.Native.Nat.{◌-◌, ◌<◌}
use lib.ListN.{length}
use Rattle.matrices.specs.Matrix.{bit_of}
use Rattle.index.proofs.Joins.{Marking}
use Rattle.index.proofs.mark_parts.Given as goal

abbrev pub invariant-loop-p : goal.invariant-loop-p
invariant-loop-p l =
    (length l.held ≡ length l.initial.held) × Marking l.edges l.c l.initial.held l.held l.p × (l.p < 2048 → bit_of l.edges l.c l.p ≡ true)

abbrev pub decreases-loop-p : goal.decreases-loop-p
decreases-loop-p l = 2048 - l.p
