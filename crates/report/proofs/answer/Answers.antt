-- `report::answer` meets its contract: the buffers are those of document 01. Assumes nothing.
use Rattle.report.proofs.Pages.{determined}
use Rattle.report.proofs.answer.Goals as goal

pub returns : goal.returns
returns c = determined _ _ _ _ _ c.requires c.answer_alone.ensures.0 c.answer_alone.ensures.1
