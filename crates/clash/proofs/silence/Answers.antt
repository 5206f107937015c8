-- `clash::silence` meets its contract. Assumes nothing.
use native.Mathlib.Omega.{arith}
use Rattle.clash.proofs.Silencing.{copied_all}
use Rattle.clash.proofs.silence.Goals as goal

pub returns : goal.returns
returns c = copied_all _ _ c.loop-p.out _ c.loop-p.invariant (omega arith) (omega arith)
