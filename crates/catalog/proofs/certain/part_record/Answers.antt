-- `certain::part_record` meets its contract: both orders of an APART. Assumes nothing.
use Rattle.catalog.proofs.Telling.{parting-off, parting-on}
use Rattle.catalog.proofs.certain.part_record.Goals as goal

pub returns-then-r-ne-APART : goal.returns-then-r-ne-APART
returns-then-r-ne-APART c = parting-off _ _ _ _ c.if-r-ne-APART.true

pub returns : goal.returns
returns c =
    parting-on _ _ _ _ _ _ _ _ c.if-r-ne-APART.false c.test.ensures c.test-2.ensures c.join_where.ensures c.join_where-2.ensures
