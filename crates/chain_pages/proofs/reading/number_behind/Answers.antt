-- `reading::number_behind` meets its contract. Assumes nothing.
use Rattle.chain_pages.proofs.Finds.{number-found}
use Rattle.chain_pages.proofs.reading.number_behind.Goals as goal

pub returns : goal.returns
returns c = number-found _ _ c.digits_behind-from.ensures c.read_number.ensures c.unwrap_or-value.ensures
