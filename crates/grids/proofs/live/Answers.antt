use native.Mathlib.Omega.{arith}
use Rattle.matrices.proofs.Laws.{one_shl}
use Rattle.grids.proofs.Rows.{live-none, live-some}
use Rattle.grids.proofs.live.Goals as goal

pub returns-then-marks-a-eq1 : goal.returns-then-marks-a-eq1
returns-then-marks-a-eq1 c k = live-none _ _ k c.if-marks-a-eq1.true

pub returns : goal.returns
returns c k = rw (one_shl c.args.a (omega arith)) (live-some _ _ k c.if-marks-a-eq1.false)
