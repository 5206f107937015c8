-- `results::converted_of` meets its contract: the result of a conversion by its two cases. Assumes nothing.
use mathlib.Core.Path.{◌∙◌}
use Rattle.piecebook.proofs.ResultsLaws.{told-refused}
use Rattle.piecebook.proofs.results.converted_of.Goals as goal

pub returns-in-Err : goal.returns-in-Err
returns-in-Err c = told-refused _ _ _ _ c.in-Err.is (c.from.ensures ∙ c.refusal_number.ensures)
