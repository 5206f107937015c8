-- `closure::meeting` meets its contract: rows joined along the steps are a product with D. Assumes nothing.
use borrow.Author.Rules.{rules}
use Rattle.closure.proofs.Holding.{toward-holds}
use Rattle.closure.proofs.meeting.Goals as goal

pub returns : goal.returns
returns c =
    let P = c.requires in
    toward-holds _ _ _ (search rules) c.meets.ensures (c.join_parts.ensures _ P.0 P.2)
