-- `chain_calls::chained` meets its contract. Assumes nothing.
use mathlib.Core.Path.{◌∙◌}
use Rattle.piecebook.proofs.Chaining.{replied-answer, replied-refused}
use Rattle.piecebook.proofs.chain_calls.chained.Goals as goal

pub returns-in-Ok : goal.returns-in-Ok
returns-in-Ok c = replied-answer _ _ _ _ c.in-Ok.is (c.from-in-Ok.ensures ∙ c.from.ensures)

pub returns-in-Err : goal.returns-in-Err
returns-in-Err c = replied-refused _ _ _ _ _ c.in-Err.is (c.from-in-Err.ensures ∙ c.refusal_number.ensures)
