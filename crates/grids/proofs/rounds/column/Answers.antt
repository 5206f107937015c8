use native.Mathlib.Omega.{arith}
use Rattle.matrices.proofs.Laws.{one_shl}
use Rattle.grids.specs.Grid.{bit_at}
use Rattle.grids.proofs.Rows.{row-none, row_more}
use Rattle.grids.proofs.rounds.column.Goals as goal

pub loop-g-init : goal.loop-g-init
loop-g-init c = λ k. row-none _ k

pub loop-g-preserved : goal.loop-g-preserved
unfolding bit_at
loop-g-preserved c =
    λ k. row_more (λ j. bit_at c.args.x.now j c.args.i) _ k _ _ (c.loop-g.invariant k) (rw (one_shl c.loop-g.g (omega arith)) at (c.chosen-r.ensures k))
