use native.Mathlib.Omega.{arith}
use Rattle.matrices.proofs.Flows.{along-more, along-all}
use Rattle.matrices.proofs.joins.join_along.Goals as goal

pub loop-i-preserved : goal.loop-i-preserved
loop-i-preserved c =
    let L = c.loop-i in
    λ R. along-more c.args.e.now c.args.n c.args.order.now c.args.m.now L.m _ c.from-h.result L.i R c.requires.2 (omega arith) c.from-h.ensures (L.invariant R) c.pull.ensures

pub returns : goal.returns
returns c = let L = c.loop-i in along-all _ _ _ _ _ L.i c.requires.3 (omega arith) (L.invariant c.requires.3)
