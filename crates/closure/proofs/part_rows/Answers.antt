-- `closure::part_rows` meets its contract: D is the diagonal joined along the steps. Assumes nothing.
use borrow.Author.Rules.{rules}
use Rattle.closure.proofs.Holding.{part-holds}
use Rattle.closure.proofs.part_rows.Goals as goal

pub returns : goal.returns
returns c fs B S =
    part-holds _ _ B.fits c.clear_rows.ensures (search rules) c.diagonal.ensures
    (c.join_parts.ensures fs B S)
