-- `reading::number_if` meets its contract. Assumes nothing.
use Rattle.chain_pages.proofs.Finds.{none-wanted, one_wanted}
use Rattle.chain_pages.proofs.reading.number_if.Goals as goal

pub returns-then-n-eq0 : goal.returns-then-n-eq0
returns-then-n-eq0 c = none-wanted _ _ _ c.requires c.if-n-eq0.true

pub returns : goal.returns
returns c = one_wanted _ _ _ _ _ c.if-n-eq0.false c.number_behind.ensures
