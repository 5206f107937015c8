-- `report::put_claims` meets its contract: the loop keeps that the first i lines are put. Assumes nothing.
use native.Mathlib.Omega.{arith}
use mathlib.Core.Path.{ap}
use Rattle.pages.proofs.Puts.{put_as}
use Rattle.report.specs.Session.{claim_lines}
use Rattle.report.proofs.Claims.{no-claim, next-claim}
use Rattle.report.proofs.put_claims.Goals as goal

pub loop-i-init : goal.loop-i-init
loop-i-init c = no-claim _ _

pub loop-i-preserved : goal.loop-i-preserved
loop-i-preserved c =
    next-claim c.args.claims.now c.args.answers.now c.loop-i.i _ _ c.record_at-claim.ensures c.answer_at-answer.ensures c.loop-i.invariant c.put_claim-end.ensures

pub returns : goal.returns
returns c = put_as (ap (claim_lines c.args.claims.now c.args.answers.now) (omega arith)) c.loop-i.invariant
