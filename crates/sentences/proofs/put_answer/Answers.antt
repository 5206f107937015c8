-- `sentences::put_answer` meets its contract: the code's table is the definition's. Assumes nothing.
use Rattle.sentences.specs.Words.{answer_name}
use Rattle.sentences.proofs.put_answer.Goals as goal

pub returns : goal.returns
unfolding answer_name
returns c = rw (← c.from.ensures) c.put_entry.ensures
