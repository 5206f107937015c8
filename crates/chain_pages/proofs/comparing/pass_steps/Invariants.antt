-- `comparing::pass_steps` meets its contract: the loop keeps that the first i lines are passed. Assumes nothing.
use Rattle.chain_pages.specs.StepLine.{step_lines}
use Rattle.chain_pages.specs.Begins.{Passed}
use Rattle.chain_pages.proofs.comparing.pass_steps.Given as goal

abbrev pub invariant-loop-i : goal.invariant-loop-i
invariant-loop-i l = Passed l.page l.at (step_lines l.c l.i) l.end
