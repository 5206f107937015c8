use Rattle.replicates.proofs.Reaches.{reach-none, reach-more}
use Rattle.replicates.proofs.windows.reach.Goals as goal

pub loop-q-init : goal.loop-q-init
loop-q-init c = reach-none _ _

pub loop-q-preserved : goal.loop-q-preserved
loop-q-preserved c = reach-more _ _ _ _ _ _ c.loop-q.invariant c.look.ensures c.max-start.ensures
