-- `piecebook::told` meets its contract: the result of an outcome by its two cases. Assumes nothing.
use mathlib.Core.Path.{◌∙◌}
use Rattle.piecebook.proofs.OpenBooks.{replied-refused}
use Rattle.piecebook.proofs.told.Goals as goal

pub returns-in-Err : goal.returns-in-Err
returns-in-Err c = replied-refused _ _ _ _ _ c.in-Err.is (c.from.ensures ∙ c.refusal_number.ensures)
