-- `piecebook::ask_of` meets its contract.
-- Assumes nothing.
use Rattle.piecebook.proofs.OpenBooks.{answered}
use Rattle.piecebook.proofs.ask_of.Goals as goal

pub returns : goal.returns
returns c = answered _ _ _ _ _ _ _ c.state_of.ensures c.from.ensures c.told.ensures c.ask_of-asked.ensures
