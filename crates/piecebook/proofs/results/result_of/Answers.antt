use mathlib.Core.Path.{◌∙◌}
use Rattle.piecebook.proofs.ResultsLaws.{reported-refused}
use Rattle.piecebook.proofs.results.result_of.Goals as goal

pub returns-in-Err : goal.returns-in-Err
returns-in-Err c = reported-refused _ _ _ _ c.in-Err.is (c.from.ensures ∙ c.refusal_number.ensures)
