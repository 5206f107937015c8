-- `reading::kind_by` meets its contract. Assumes nothing.
use Rattle.chain_pages.specs.Read.{kind_by}
use Rattle.chain_pages.proofs.reading.kind_by.Goals as goal

pub returns : goal.returns
unfolding kind_by
returns c = c.place_of.ensures
