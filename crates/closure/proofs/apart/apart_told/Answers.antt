-- `closure::apart::apart_told` meets its contract. Assumes nothing.
use Rattle.closure.proofs.Aparts.{told-holds}
use borrow.Author.Rules.{rules}
use Rattle.closure.proofs.apart.apart_told.Goals as goal

pub returns : goal.returns
returns c = told-holds _ _ _ (search rules) (search rules) c.store.ensures c.part_marked.ensures
