-- `lines::put_steps` meets its contract: the loop keeps that the first i lines are put. Assumes nothing.
use Rattle.pages.specs.Put.{Put}
use Rattle.chain_pages.specs.StepLine.{step_lines}
use Rattle.chain_pages.proofs.lines.put_steps.Given as goal

abbrev pub invariant-loop-i : goal.invariant-loop-i
invariant-loop-i l = Put l.initial.page l.at (step_lines l.c l.i) l.page l.end
