-- `storing::step_record` meets its contract: one bit, where the leaders differ. Assumes nothing.
use borrow.Author.Tests.{eq-eqb}
use Rattle.closure.proofs.Grows.{grown-step}
use Rattle.closure.proofs.storing.step_record.Goals as goal

pub returns-then-r-eq-PART : goal.returns-then-r-eq-PART
returns-then-r-eq-PART c =
    let A = c.args in
    grown-step _ _ _ _ A.r.a A.r.b _ _ (eq-eqb A.r.kind 1 c.if-r-eq-PART.true) c.from-p.ensures c.from-c.ensures c.insert_where.ensures
