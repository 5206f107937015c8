-- `storing::edges` meets its contract: the stored PARTs and the crown. Assumes nothing.
use borrow.Author.Rules.{rules}
use Rattle.closure.proofs.Holding.{edge-holds}
use Rattle.closure.proofs.storing.edges.Goals as goal

pub returns : goal.returns
returns c = edge-holds _ _ (search rules) (search rules) c.store.ensures c.crown.ensures
