-- `index::mark_held` meets its contract: the parts of the pieces below `c` are marked.
-- Assumes nothing.
use mathlib.Core.Path.{refl, ◌∙◌}
use native.Mathlib.Omega.{arith}
use Rattle.index.proofs.Joins.{held_start, held_more}
use Rattle.index.proofs.mark_held.Goals as goal

pub loop-c-init : goal.loop-c-init
loop-c-init c = (omega arith, refl, held_start _ _ c.requires.3.zeros)

pub loop-c-preserved : goal.loop-c-preserved
loop-c-preserved c =
    let L = c.loop-c in
    (omega arith, c.mark_parts.ensures.same ∙ L.invariant.1, held_more L.c _ L.held _ L.invariant.2 c.mark_parts.ensures)
