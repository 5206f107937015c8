-- `storing::store` meets its contract: the invariant is that the matrix has the bits of the records passed. Assumes nothing.
use native.Mathlib.Omega.{arith}
use borrow.Author.Rules.{rules}
use Rattle.closure.specs.Stored.{stored_bit}
use Rattle.closure.proofs.Holding.{below-2048}
use Rattle.closure.proofs.StoringLaws.{storing-none, storing-more, storing-asks, storing-all}
use Rattle.closure.proofs.storing.store.Goals as goal

pub loop-i-init : goal.loop-i-init
loop-i-init c = (search rules, storing-none _ _ _ _ _ c.clear_rows.ensures)

pub store_record-requires : goal.store_record-requires
store_record-requires c =
    let P = c.requires in
    let L = c.loop-i in
    (search rules, storing-asks _ _ 2048 (below-2048 P.3) P.1 P.2 L.i _ c.record_at.ensures (omega arith))

pub loop-i-preserved : goal.loop-i-preserved
loop-i-preserved c =
    let L = c.loop-i in
    (search rules, storing-more _ _ _ _ _ _ _ _ (omega arith) c.record_at.ensures L.invariant.1 c.store_record.ensures)

pub returns : goal.returns
unfolding stored_bit
returns c =
    let L = c.loop-i in
    let P = c.requires in
    storing-all _ _ _ _ _ L.i P.1 P.2 L.invariant.0 (omega arith) L.invariant.1
