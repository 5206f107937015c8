-- `lines::put_answered` meets its contract: four or five texts, one behind the other. Assumes nothing.
use borrow.Author.Rules.{rules}
use Rattle.pages.proofs.Puts.{chain, put_as}
use Rattle.chain_pages.proofs.Answers.{from_all, from-sheets}
use Rattle.chain_pages.proofs.lines.put_answered.Goals as goal

pub returns-then-claim-eq0 : goal.returns-then-claim-eq0
returns-then-claim-eq0 c = put_as (from_all _ _ c.if-claim-eq0.true) (search (rules, chain))

pub returns : goal.returns
returns c =
    put_as (from-sheets _ _ c.if-claim-eq0.false) (chain c.put_kind-at.ensures (chain c.put_number-at.ensures (chain c.put_number-at-2.ensures (chain c.put-at.ensures c.put_answer-2.ensures))))
