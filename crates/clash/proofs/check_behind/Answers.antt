-- `clash::check_behind` meets its contract. Assumes nothing.
use mathlib.Core.Path.{sym}
use native.Mathlib.Omega.{arith}
use lib.Seq.{length-take-le}
use Rattle.clash.proofs.Places.{room, short}
use Rattle.clash.proofs.Inner.{claim-kind, check-asked, check-no, check-some, check-last}
use Rattle.clash.proofs.check_behind.Goals as goal

pub silence-requires : goal.silence-requires
silence-requires c = omega (arith, short c.requires.clashes)

pub slice_bounds-copy-end : goal.slice_bounds-copy-end
slice_bounds-copy-end c = omega (arith, short c.requires.clashes)

pub slice_bounds-run-end : goal.slice_bounds-run-end
slice_bounds-run-end c = sym (length-take-le _ _ (omega (arith, short c.requires.clashes)))

pub claim_at-claim-requires : goal.claim_at-claim-requires
claim_at-claim-requires c = room c.requires.clashes

pub check_steps-requires : goal.check_steps-requires
check_steps-requires c = check-asked c.requires.clashes c.requires.count c.silence.ensures c.claim_at-claim.ensures c.requires.void

pub returns-then-not-check_steps : goal.returns-then-not-check_steps
returns-then-not-check_steps c =
    check-no c.requires.clashes c.requires.count c.silence.ensures c.claim_at-claim.ensures _ _ c.check_steps.ensures (c.if-not-check_steps.true)

pub overflow_sub-c : goal.overflow_sub-c
overflow_sub-c c =
    check-some c.requires.clashes c.requires.count c.silence.ensures c.claim_at-claim.ensures _ _ c.check_steps.ensures (c.if-not-check_steps.false)

pub step_at-last-requires : goal.step_at-last-requires
step_at-last-requires c =
    omega (arith, check-some c.requires.clashes c.requires.count c.silence.ensures c.claim_at-claim.ensures _ _ c.check_steps.ensures (c.if-not-check_steps.false))

pub overflow_sub-claim : goal.overflow_sub-claim
overflow_sub-claim c = claim-kind c.requires.clashes c.requires.count c.silence.ensures c.claim_at-claim.ensures

pub returns : goal.returns
returns c =
    check-last c.requires.clashes c.requires.count c.silence.ensures c.claim_at-claim.ensures _ _ c.check_steps.ensures (c.if-not-check_steps.false) _ c.step_at-last.ensures _ c.shows.ensures
