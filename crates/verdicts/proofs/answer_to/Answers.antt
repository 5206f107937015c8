-- `verdicts::answer_to` meets its contract: the marks decide, or whether the claim is derived, and whether its opposite is. Assumes nothing.
use Rattle.verdicts.proofs.Answering.{answered-follows, answered-denied, answered-open}
use Rattle.verdicts.proofs.answer_to.Goals as goal

pub returns-then-derived : goal.returns-then-derived
returns-then-derived c =
    answered-follows _ _ _ _ _ _ _ _ _ _ c.if-either_marked.false c.either_marked.ensures _ c.if-derived.true c.derived.ensures

pub returns-then-derived-2 : goal.returns-then-derived-2
returns-then-derived-2 c =
    let P = c.requires in
    answered-denied _ _ _ _ _ _ _ _ _ _ c.if-either_marked.false c.either_marked.ensures P.0 P.1 _ _ c.if-derived.false c.derived.ensures c.derived-else-derived.ensures c.if-derived-2.true

pub returns-else-derived-2 : goal.returns-else-derived-2
returns-else-derived-2 c =
    let P = c.requires in
    answered-open _ _ _ _ _ _ _ _ _ _ c.if-either_marked.false c.either_marked.ensures P.0 P.1 _ _ c.if-derived.false c.derived.ensures c.derived-else-derived.ensures c.if-derived-2.false
