-- `claims::some_restricted` meets its contract. Assumes nothing.
use native.Mathlib.Omega.{arith}
use Rattle.claims.proofs.Answering.{plain-none, plain_more, plain-all, restricted-found}
use Rattle.claims.proofs.some_restricted.Goals as goal

pub loop-i-init : goal.loop-i-init
loop-i-init c = plain-none _

pub returns-then-r-gt0 : goal.returns-then-r-gt0
returns-then-r-gt0 c = restricted-found _ c.loop-i.i _ c.record_at-r.ensures (omega arith) (omega arith)

pub loop-i-preserved : goal.loop-i-preserved
loop-i-preserved c = plain_more _ _ _ c.record_at-r.ensures (omega arith) c.loop-i.invariant

pub returns : goal.returns
returns c = plain-all _ c.loop-i.i (omega arith) c.loop-i.invariant
