-- `steps::step_at` meets its contract: the ten bytes that were read are those of `step_at`. Assumes nothing.
use Rattle.chain_format.proofs.Computed.{read_step}
use Rattle.chain_format.proofs.steps.step_at.Goals as goal

pub returns : goal.returns
returns c =
    read_step _ _ _ _ _ _ c.number_at.ensures.0 c.number_at-2.ensures.0 c.number_at-3.ensures.0 c.number_at-4.ensures.0
