-- `comparing::pass_steps` meets its contract: the loop keeps that the first i lines are passed. Assumes nothing.
use native.Mathlib.Omega.{arith}
use Rattle.chain_format.specs.Step.{step_at}
use Rattle.chain_pages.specs.StepLine.{step_line, step_lines}
use Rattle.pages.specs.Lines.{lines}
use Rattle.chain_pages.proofs.Passes.{passed_none, passed-line, passed-all, narrow}
use mathlib.Core.Path.{ap}
use Rattle.chain_pages.proofs.comparing.pass_steps.Goals as goal

pub loop-i-init : goal.loop-i-init
unfolding step_lines lines
loop-i-init c = passed_none _ _

pub pass_step-end-requires : goal.pass_step-end-requires
pass_step-end-requires c = narrow _ (λ j. (c.shared_slice_known-2-1.given j).fits) _ _ c.step_at.ensures (omega arith)

pub loop-i-preserved : goal.loop-i-preserved
unfolding step_lines
loop-i-preserved c =
    passed-line _ _ (λ j. step_line j (step_at c.args.c.now j)) c.loop-i.i _ _ _ (ap (step_line c.loop-i.i) c.step_at.ensures) c.loop-i.invariant c.pass_step-end.ensures

pub returns : goal.returns
returns c = passed-all _ _ c.args.c.now c.loop-i.i _ (omega arith) c.loop-i.invariant
