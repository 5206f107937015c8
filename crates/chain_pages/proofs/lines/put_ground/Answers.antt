-- `lines::put_ground` meets its contract, by how many numbers the step names. Assumes nothing.
use Rattle.pages.proofs.Puts.{chain, put_as}
use Rattle.chain_pages.proofs.Rests.{no_number, one_number, two-numbers}
use Rattle.chain_pages.proofs.lines.put_ground.Goals as goal

pub returns-then-n-eq0 : goal.returns-then-n-eq0
returns-then-n-eq0 c = put_as (no_number _ _ c.count-n.ensures c.if-n-eq0.true) c.put_rule.ensures

pub returns-then-n-eq1 : goal.returns-then-n-eq1
returns-then-n-eq1 c = put_as (one_number _ _ c.count-n.ensures c.if-n-eq1.true) (chain c.put_rule-at.ensures c.put_number.ensures)

pub returns : goal.returns
returns c =
    put_as (two-numbers _ _ c.count-n.ensures c.if-n-eq0.false c.if-n-eq1.false) (chain c.put_rule-at.ensures (chain c.put_number-at.ensures c.put_number-2.ensures))
