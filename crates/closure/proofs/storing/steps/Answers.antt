-- `storing::steps` meets its contract: the stored PARTs between leaders, and piece 0 over every other leader. Assumes nothing.
use borrow.Author.Rules.{rules}
use Rattle.closure.proofs.Holding.{step-holds}
use Rattle.closure.proofs.storing.steps.Goals as goal

pub returns : goal.returns
returns c = step-holds _ _ (search rules) _ (search rules) c.step_stored.ensures c.crown_leaders.ensures
