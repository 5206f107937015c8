-- `chain_calls::clashed` meets its contract. Assumes nothing.
use mathlib.Core.Path.{◌∙◌}
use Rattle.piecebook.proofs.Clashing.{replied-refused}
use Rattle.piecebook.proofs.chain_calls.clashed.Goals as goal

pub returns-in-Err : goal.returns-in-Err
returns-in-Err c = replied-refused _ _ _ _ _ c.in-Err.is (c.from.ensures ∙ c.refusal_number.ensures)
