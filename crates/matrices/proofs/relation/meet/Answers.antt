use native.Mathlib.Omega.{arith}
use Prim.Native.Nat.{◌+◌, ◌*◌}
use Rattle.matrices.proofs.Words.{common-here, common-nowhere}
use Rattle.matrices.proofs.relation.meet.Goals as goal

pub returns-then-m-a-ne0 : goal.returns-then-m-a-ne0
returns-then-m-a-ne0 c = common-here _ _ _ _ c.loop-i.i (omega arith) (c.type_inv.m (c.args.r * 32 + c.loop-i.i)).fits c.if-m-a-ne0.true

pub returns : goal.returns
returns c = common-nowhere _ _ _ _ (λ k h. c.loop-i.invariant k (omega arith))
