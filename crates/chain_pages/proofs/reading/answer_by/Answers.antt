-- `reading::answer_by` meets its contract. Assumes nothing.
use Rattle.chain_pages.proofs.Finds.{answer-follows, answer-denied}
use Rattle.chain_pages.proofs.reading.answer_by.Goals as goal

pub returns-then-x-eq70 : goal.returns-then-x-eq70
returns-then-x-eq70 c = answer-follows _ c.if-x-eq70.true

pub returns-else-x-eq70 : goal.returns-else-x-eq70
returns-else-x-eq70 c = answer-denied _ c.if-x-eq70.false
