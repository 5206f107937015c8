-- `claims::answer_each` meets its contract. Assumes nothing.
use borrow.Author.Rules.{rules}
use native.Mathlib.Nat.{lt_of_lt_of_le}
use native.Mathlib.Omega.{arith}
use Rattle.claims.proofs.Answering.{asked, standing-none, standing-skip, standing-read, standing-all}
use Rattle.claims.proofs.answer_each.Goals as goal

pub loop-i-init : goal.loop-i-init
loop-i-init c = standing-none _ _ _ _ _ _ _ _ _

pub loop-i-preserved-then-claim-origin : goal.loop-i-preserved-then-claim-origin
loop-i-preserved-then-claim-origin c =
    standing-skip _ _ _ _ _ _ _ _ _ _ _ _ c.record_at-claim.ensures c.if-claim-origin.true c.loop-i.invariant

pub answer_to-answer-requires : goal.answer_to-answer-requires
answer_to-answer-requires c =
    let s = c.requires in
    let w = asked _ s.n c.loop-i.i s.fit c.loop-i-test.true in
    rw c.record_at-claim.ensures
    (w.low, w.high, lt_of_lt_of_le w.a s.small, lt_of_lt_of_le w.b s.small, s.voids-sized, (search rules), (search rules), (search rules), (search rules), (search rules))

pub loop-i-preserved : goal.loop-i-preserved
loop-i-preserved c =
    standing-read _ _ _ _ _ _ _ _ _ _ _ _ _ _ c.record_at-claim.ensures c.from.ensures (omega (arith, c.requires.rooms)) c.if-claim-origin.false c.loop-i.invariant c.answer_to-answer.ensures

pub returns : goal.returns
returns c = standing-all _ _ _ _ _ _ _ _ _ _ c.loop-i.i (omega arith) c.loop-i.invariant
