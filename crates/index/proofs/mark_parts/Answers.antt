-- `index::mark_parts` meets its contract: the parts below `p` are marked, and `p` is the next one.
-- Assumes nothing.
use mathlib.Core.Path.{refl, ◌∙◌}
use Prim.Native.Nat.{◌+◌}
use native.Mathlib.Omega.{arith}
use lib.ListN.{set, length-set}
use Rattle.index.proofs.Joins.{mark-start, mark-next, mark-more}
use Rattle.index.proofs.mark_parts.Goals as goal

pub loop-p-init : goal.loop-p-init
loop-p-init c =
    let M = mark-next _ _ _ _ 0 _ (mark-start _ _ _) c.next_bit-p.ensures in
    (refl, M.0, M.1)

pub loop-p-smaller : goal.loop-p-smaller
loop-p-smaller c =
    let L = c.loop-p in
    omega (arith, (mark-next _ _ _ (set L.held L.p 1) (L.p + 1) _ (mark-more _ _ _ L.held L.p L.invariant.1 (L.invariant.2 (omega arith)) (omega arith) (omega arith)) c.next_bit-p-in-loop-p.ensures).2)

pub loop-p-preserved : goal.loop-p-preserved
loop-p-preserved c =
    let L = c.loop-p in
    let N = mark-next _ _ _ (set L.held L.p 1) (L.p + 1) _ (mark-more _ _ _ L.held L.p L.invariant.1 (L.invariant.2 (omega arith)) (omega arith) (omega arith)) c.next_bit-p-in-loop-p.ensures in
    (length-set L.held L.p 1 ∙ L.invariant.0, N.0, N.1)
