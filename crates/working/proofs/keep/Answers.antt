-- `working::keep` meets its contract. Assumes nothing.
use Rattle.working.proofs.Settling.{judged}
use Rattle.working.proofs.keep.Goals as goal

pub settle-requires : goal.settle-requires
settle-requires c = c.requires

pub shape_of-area : goal.shape_of-area
shape_of-area c = c.settle.auto.area

pub returns : goal.returns
returns c = judged _ _ _ _ c.judge_run-outcome.ensures c.settle.result _ c.settle.ensures
