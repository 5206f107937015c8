-- `verdicts::answer_marked` meets its contract: the marks tell the claim or its opposite. Assumes nothing.
use borrow.Author.Rules.{rules}
use Rattle.verdicts.proofs.Answering.{marked-follows, marked-denied}
use Rattle.verdicts.proofs.answer_marked.Goals as goal

pub returns-then-marks_tell : goal.returns-then-marks_tell
returns-then-marks_tell c = λ d u p t q. marked-follows _ d u p t q _ _ _ _ c.marks_tell.ensures c.if-marks_tell.true

pub returns-else-marks_tell : goal.returns-else-marks_tell
returns-else-marks_tell c = λ d u p t q. marked-denied _ d u p t q _ _ _ _ c.marks_tell.ensures (search rules) c.if-marks_tell.false
