-- `reading::rule_at` meets its contract. Assumes nothing.
use Rattle.chain_pages.proofs.Finds.{rule-primed, rule-plain}
use Rattle.chain_pages.proofs.reading.rule_at.Goals as goal

pub returns-then-byte-eq39 : goal.returns-then-byte-eq39
returns-then-byte-eq39 c =
    rule-primed c.args.s.now c.args.at _ _ c.byte-x.ensures c.byte.ensures c.if-byte-eq39.true _ c.place_of.ensures

pub returns : goal.returns
returns c =
    rule-plain c.args.s.now c.args.at _ _ c.byte-x.ensures c.byte.ensures c.if-byte-eq39.false _ c.place_of-2.ensures
