-- `certain::is_certain` meets its contract: by the marks, or else by the kind. Assumes nothing.
use Rattle.catalog.proofs.Telling.{told-marked, told_part, told-apart, told-meets}
use native.Mathlib.Omega.{arith}
use Rattle.catalog.proofs.certain.is_certain.Goals as goal

pub returns-then-marks_tell : goal.returns-then-marks_tell
returns-then-marks_tell c = told-marked _ _ _ _ _ _ _ _ c.marks_tell.ensures c.if-marks_tell.true

pub returns-in-1 : goal.returns-in-1
returns-in-1 c = told_part _ _ _ _ _ _ _ _ c.marks_tell.ensures c.if-marks_tell.false _ (omega arith) c.test.ensures

pub returns-in-2 : goal.returns-in-2
returns-in-2 c =
    told-apart _ _ _ _ _ _ _ _ c.marks_tell.ensures c.if-marks_tell.false _ (omega arith) (omega arith) c.test-in-2.ensures

pub returns-in_default : goal.returns-in_default
returns-in_default c =
    told-meets _ _ _ _ _ _ _ _ c.marks_tell.ensures c.if-marks_tell.false _ (omega arith) (omega arith) c.meet.ensures
