-- `closure::complete` meets its contract: U is the diagonal joined against the steps. Assumes nothing.
use borrow.Author.Rules.{rules}
use Rattle.closure.proofs.Holding.{whole-holds}
use Rattle.closure.proofs.complete.Goals as goal

pub returns : goal.returns
returns c =
    let P = c.requires in (
      whole-holds _ _ P.0.fits c.clear_rows.ensures (search rules) c.diagonal.ensures (c.join_wholes.ensures _ P.0 P.2),
      c.parting.ensures,
      c.outing.ensures,
    )
