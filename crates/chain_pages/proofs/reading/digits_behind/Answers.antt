-- `reading::digits_behind` meets its contract. Assumes nothing.
use Rattle.chain_pages.proofs.Finds.{gap-inside, digits-at}
use Rattle.chain_pages.proofs.reading.digits_behind.Goals as goal

pub run_end-to-requires : goal.run_end-to-requires
run_end-to-requires c = gap-inside _ _ _ 0 c.requires c.run_end-from.ensures

pub returns : goal.returns
returns c = digits-at _ _ _ _ c.requires c.run_end-from.ensures c.run_end-to.ensures
