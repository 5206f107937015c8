use Rattle.grids.proofs.Rows.{chosen-some, chosen_none}
use Rattle.grids.proofs.rounds.chosen.Goals as goal

pub returns-then-x-h-eq1 : goal.returns-then-x-h-eq1
returns-then-x-h-eq1 c k = chosen-some _ _ _ k c.if-x-h-eq1.true

pub returns : goal.returns
returns c k = chosen_none _ _ _ k c.if-x-h-eq1.false
