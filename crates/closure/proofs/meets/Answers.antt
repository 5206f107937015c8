-- `closure::meets` meets its contract: the stored MEETS and the diagonal of pieces not marked. Assumes nothing.
use borrow.Author.Rules.{rules}
use Rattle.closure.proofs.Holding.{meet-holds}
use Rattle.closure.proofs.meets.Goals as goal

pub returns : goal.returns
returns c = meet-holds _ _ (search rules) _ (search rules) c.store.ensures c.diagonal_unmarked.ensures
