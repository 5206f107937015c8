-- `report::put_refusal` meets its contract: three texts, one behind the other. Assumes nothing.
use borrow.Author.Rules.{rules}
use Rattle.pages.proofs.Puts.{chain}
use Rattle.report.specs.Session.{refusal_line}
use Rattle.report.proofs.put_refusal.Goals as goal

pub returns : goal.returns
unfolding refusal_line
returns c = search (rules, chain)
