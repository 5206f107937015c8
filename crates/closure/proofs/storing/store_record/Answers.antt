-- `storing::store_record` meets its contract: the bits of the record in one order and in the other. Assumes nothing.
use borrow.Author.Tests.{eq-eqb}
use Rattle.closure.proofs.Grows.{grown-record}
use Rattle.closure.proofs.storing.store_record.Goals as goal

pub returns-then-r-kind : goal.returns-then-r-kind
returns-then-r-kind c =
    let A = c.args in
    grown-record _ _ _ _ A.straight A.swapped A.r.a A.r.b (eq-eqb A.r.kind A.kind c.if-r-kind.true) c.insert_where.ensures c.insert_where-then-r-kind.ensures
