-- `marking::mark_voids` meets its contract: the invariant is that the row has the marks of the records passed. Assumes nothing.
use native.Mathlib.Omega.{arith}
use borrow.Author.Rules.{rules}
use lib.ListN.{length}
use Rattle.closure.proofs.VoidRows.{marking-none, marking-more, marking-asks, marking-all, marking-fits}
use Rattle.closure.proofs.marking.mark_voids.Goals as goal

pub loop-i-init : goal.loop-i-init
loop-i-init c = (search rules, marking-none _ _ (length c.args.voids.now) (c.fill.ensures.after (λ y e. e)))

pub mark_record-requires : goal.mark_record-requires
mark_record-requires c =
    let P = c.requires in
    let L = c.loop-i in
    (search rules, marking-asks _ P.0 L.i _ c.record_at.ensures (omega arith))

pub loop-i-preserved : goal.loop-i-preserved
loop-i-preserved c =
    let L = c.loop-i in
    (search rules, marking-more _ _ _ _ _ c.record_at.ensures L.invariant.1 c.mark_record.ensures)

pub returns : goal.returns
returns c =
    let L = c.loop-i in
    let P = c.requires in
    (marking-fits _ _ P.0 L.invariant.0 L.i (omega arith) L.invariant.1, marking-all _ _ P.0 L.invariant.0 L.i (omega arith) L.invariant.1)
