-- `sentences::put_reason` meets its contract: the code's table is the definition's. Assumes nothing.
use Rattle.sentences.specs.Unread.{reason_of}
use Rattle.sentences.proofs.put_reason.Goals as goal

pub returns : goal.returns
unfolding reason_of
returns c = rw (← c.wording.ensures) c.put_entry.ensures
