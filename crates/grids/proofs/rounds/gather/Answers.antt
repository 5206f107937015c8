use Rattle.grids.specs.Grid.{bit_at}
use Rattle.grids.proofs.Rows.{gather_none, gather-more}
use Rattle.grids.proofs.rounds.gather.Goals as goal

pub loop-h-init : goal.loop-h-init
loop-h-init c = λ k. gather_none _ _ k _

pub loop-h-preserved : goal.loop-h-preserved
unfolding bit_at
loop-h-preserved c = λ k. gather-more _ _ _ k _ _ c.args.z.now (c.loop-h.invariant k) (c.chosen-r.ensures k)
