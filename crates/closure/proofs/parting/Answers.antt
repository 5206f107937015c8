-- `closure::parting` meets its contract: rows joined against the steps are a product with U. Assumes nothing.
use borrow.Author.Rules.{rules}
use Rattle.closure.proofs.Holding.{away-holds}
use Rattle.closure.proofs.parting.Goals as goal

pub returns : goal.returns
returns c =
    let P = c.requires in
    away-holds _ _ (search rules) c.store.ensures (c.join_wholes.ensures _ P.0 P.1)
