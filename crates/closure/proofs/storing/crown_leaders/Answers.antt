-- `storing::crown_leaders` meets its contract: the test is that a piece leads. Assumes nothing.
use borrow.Author.Rules.{rules}
use lib.Dec.{eqb}
use lib.ListN.{get_or}
use Rattle.closure.proofs.storing.crown_leaders.Goals as goal

pub returns : goal.returns
returns c = c.crown_where.ensures (λ x. eqb (get_or c.args.lead.now x 0) x) (record { at = λ i b l p. search rules })
