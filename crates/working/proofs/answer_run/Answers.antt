-- `working::answer_run` meets its contract. Assumes nothing.
use mathlib.Core.Path.{refl}
use Rattle.working.proofs.Cleared.{on-cleared}
use Rattle.working.proofs.answer_run.Goals as goal

pub slice_bounds-answer_alone-end : goal.slice_bounds-answer_alone-end
slice_bounds-answer_alone-end c = refl

pub returns : goal.returns
returns c = on-cleared _ _ c.requires _ _ c.answer_alone-outcome.ensures.0 c.answer_alone-outcome.ensures.1
