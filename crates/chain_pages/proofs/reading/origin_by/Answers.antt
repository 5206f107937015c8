-- `reading::origin_by` meets its contract. Assumes nothing.
use Rattle.chain_pages.proofs.Finds.{origin-sheet, origin-all}
use Rattle.chain_pages.proofs.reading.origin_by.Goals as goal

pub returns-then-x-eq115 : goal.returns-then-x-eq115
returns-then-x-eq115 c = origin-sheet _ c.if-x-eq115.true

pub returns-else-x-eq115 : goal.returns-else-x-eq115
returns-else-x-eq115 c = origin-all _ c.if-x-eq115.false
