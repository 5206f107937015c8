-- `lines::put_step` meets its contract: five fields, one behind the other. Assumes nothing.
use Rattle.pages.proofs.Puts.{chain}
use Rattle.chain_pages.specs.StepLine.{ground, step_line}
use Rattle.chain_pages.proofs.lines.put_step.Goals as goal

pub returns : goal.returns
unfolding ground step_line
returns c =
    chain c.put_number-at.ensures (chain c.put_kind-at.ensures (chain c.put_number-at-2.ensures (chain c.put_number-at-3.ensures c.put_ground.ensures)))
