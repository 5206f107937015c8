-- `report::put_claim` meets its contract: five fields, one behind the other. Assumes nothing.
use Rattle.pages.proofs.Puts.{chain}
use Rattle.report.specs.Session.{claim_line}
use Rattle.report.proofs.put_claim.Goals as goal

pub returns : goal.returns
unfolding claim_line
returns c =
    chain c.put_number-at.ensures (chain c.put_kind-at.ensures (chain c.put_number-at-2.ensures (chain c.put_number-at-3.ensures c.put_answer.ensures)))
