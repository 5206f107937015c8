-- `sentences::put_prefix` meets its contract: the code's table is the definition's. Assumes nothing.
use Rattle.sentences.specs.Unread.{prefix}
use Rattle.sentences.proofs.put_prefix.Goals as goal

pub returns : goal.returns
unfolding prefix
returns c = c.put_line.ensures
