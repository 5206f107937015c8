-- `marking::mark_record` meets its contract: the bit of the piece, or nothing where the record is no mark. Assumes nothing.
use Rattle.closure.proofs.VoidRows.{put_other, put-mark}
use Rattle.closure.proofs.marking.mark_record.Goals as goal

pub returns-then-r-eq-VOID : goal.returns-then-r-eq-VOID
returns-then-r-eq-VOID c = put-mark _ _ _ c.if-r-eq-VOID.true c.put.ensures

pub returns-else-r-eq-VOID : goal.returns-else-r-eq-VOID
returns-else-r-eq-VOID c = λ g h. put_other _ _ c.if-r-eq-VOID.false g
