-- `storing::step_stored` meets its contract: the invariant is that the matrix has the steps of the records passed. Assumes nothing.
use native.Mathlib.Omega.{arith}
use borrow.Author.Rules.{rules}
use Rattle.closure.proofs.StoringLaws.{storing-none, storing-more, storing-asks, storing-all}
use Rattle.closure.proofs.storing.step_stored.Goals as goal

pub loop-i-init : goal.loop-i-init
loop-i-init c = (search rules, storing-none _ _ _ _ _ c.clear_rows.ensures)

pub step_record-requires : goal.step_record-requires
step_record-requires c = (
  search rules,
  λ k.
      let P = c.requires in
      let B = P.0 in
      let w = storing-asks _ 1 _ B.within (omega arith) (omega arith) c.loop-i.i _ c.record_at.ensures (omega arith) k in
      (omega (arith, w.0, P.1), omega (arith, w.1, P.1), omega (arith, P.2 _ w.0, B.fits), omega (arith, P.2 _ w.1, B.fits)),
)

pub loop-i-preserved : goal.loop-i-preserved
loop-i-preserved c =
    let L = c.loop-i in
    (search rules, storing-more _ _ _ _ _ _ _ _ (omega arith) c.record_at.ensures L.invariant.1 c.step_record.ensures)

pub returns : goal.returns
returns c =
    let L = c.loop-i in
    storing-all _ _ _ _ _ L.i (omega arith) (omega arith) L.invariant.0 (omega arith) L.invariant.1
