-- `records::copy_where` meets its contract. Assumes nothing.
use Rattle.records.proofs.Keeps.{where-not, where-so}
use native.Mathlib.Omega.{arith}
use Rattle.records.proofs.copy_where.Goals as goal

pub returns-then-not-on : goal.returns-then-not-on
returns-then-not-on c = where-not _ _ _ _ (c.if-not-on.true)

pub returns : goal.returns
returns c = where-so _ _ _ _ _ (omega arith) (c.if-not-on.false) c.copy_record.ensures
