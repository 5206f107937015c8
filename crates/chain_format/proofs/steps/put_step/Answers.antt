-- `steps::put_step` meets its contract: the ten bytes are those of `step_bytes`. Assumes nothing.
use Rattle.chain_format.specs.Step.{step_bytes}
use Rattle.chain_format.proofs.steps.put_step.Goals as goal

pub returns : goal.returns
unfolding step_bytes
returns c =
    rw (← c.low.ensures, ← c.low-2.ensures, ← c.low-3.ensures, ← c.low-4.ensures, ← c.low-5.ensures, ← c.low-6.ensures, ← c.low-7.ensures, ← c.low-8.ensures) c.copy_to.ensures
