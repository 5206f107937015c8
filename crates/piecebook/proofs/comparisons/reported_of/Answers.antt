-- `comparisons::reported_of` meets its contract. Assumes nothing.
use mathlib.Core.Path.{◌∙◌}
use Rattle.piecebook.proofs.Comparing.{reported-refused}
use Rattle.piecebook.proofs.comparisons.reported_of.Goals as goal

pub returns-in-Err : goal.returns-in-Err
returns-in-Err c = reported-refused _ _ _ _ _ c.in-Err.is (c.from-in-Err.ensures ∙ c.refusal_number.ensures)
