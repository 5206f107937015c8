-- `sentences::put_agreement` meets its contract: the code's table is the definition's. Assumes nothing.
use Rattle.sentences.specs.Words.{agreement_name}
use Rattle.sentences.proofs.put_agreement.Goals as goal

pub returns : goal.returns
unfolding agreement_name
returns c = rw (← c.from.ensures) c.put_entry.ensures
