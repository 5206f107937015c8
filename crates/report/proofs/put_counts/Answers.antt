-- `report::put_counts` meets its contract: six texts, one behind the other. Assumes nothing.
use Rattle.pages.proofs.Puts.{chain}
use Rattle.report.specs.Session.{counts_line}
use Rattle.report.proofs.put_counts.Goals as goal

pub returns : goal.returns
unfolding counts_line
returns c =
    chain c.put-at.ensures (chain c.put_number-at.ensures (chain c.put-at-2.ensures (chain c.put_number-at-2.ensures (chain c.put-at-3.ensures c.put_number.ensures))))
