-- `lines::put_steps` meets its contract: the loop keeps that the first i lines are put. Assumes nothing.
use native.Mathlib.Omega.{arith}
use mathlib.Core.Path.{ap}
use Rattle.chain_format.specs.Step.{step_at}
use Rattle.pages.proofs.Puts.{put_as}
use Rattle.pages.proofs.Lined.{no_line, next-line}
use Rattle.chain_pages.specs.StepLine.{step_line}
use Rattle.chain_pages.specs.StepLine.{step_lines}
use Rattle.chain_pages.proofs.lines.put_steps.Goals as goal

pub loop-i-init : goal.loop-i-init
unfolding step_lines
loop-i-init c = no_line _

pub loop-i-preserved : goal.loop-i-preserved
unfolding step_lines
loop-i-preserved c =
    next-line (λ j. step_line j (step_at c.args.c.now j)) c.loop-i.i c.loop-i.invariant (put_as (ap (step_line c.loop-i.i) c.step_at-s.ensures) c.put_step-end.ensures)

pub returns : goal.returns
returns c = put_as (ap (step_lines c.args.c.now) (omega arith)) c.loop-i.invariant
