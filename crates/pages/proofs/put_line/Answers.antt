-- `pages::put_line` meets its contract: the loop keeps what is left to put of the rest of the table. Assumes nothing.
use Rattle.pages.proofs.Entries.{done, ended, passed, more, skipped}
use Rattle.pages.proofs.put_line.Goals.{then-x-eq-LINE_END+else-left-eq0, else-x-eq-LINE_END+then-left-eq0-2, else-x-eq-LINE_END+else-left-eq0-2}
use Rattle.pages.proofs.put_line.Goals as goal

pub returns-then-left-eq0 : goal.returns-then-left-eq0
returns-then-left-eq0 c = ended _ _ c.loop-x.invariant c.loop-x-test.true c.if-x-eq-LINE_END.true c.if-left-eq0.true

pub loop-x-preserved : goal.loop-x-preserved
loop-x-preserved c =
    let a = c.loop-x.invariant in
    let h = c.loop-x-test.true in
    elim c.if-x-eq-LINE_END.branch [
      | then-x-eq-LINE_END+else-left-eq0 w ↦ rw (w.page-is, w.end-is, w.left-is) (passed _ _ a h w.if-x-eq-LINE_END.true w.if-left-eq0.false)
      | else-x-eq-LINE_END+then-left-eq0-2 w ↦ rw (w.page-is, w.end-is, w.left-is) (more _ _ a h w.if-x-eq-LINE_END.false w.if-left-eq0-2.true w.put_byte-end.ensures)
      | else-x-eq-LINE_END+else-left-eq0-2 w ↦ rw (w.page-is, w.end-is, w.left-is) (skipped _ _ a h w.if-x-eq-LINE_END.false w.if-left-eq0-2.false)
    ]

pub returns : goal.returns
returns c = done _ _ c.loop-x.invariant c.loop-x-test.false
