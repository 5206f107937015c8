-- `joins::pool_rows` meets its contract: the invariant is that the rows passed are in their leaders'. Assumes nothing.
use native.Mathlib.Omega.{arith}
use borrow.Author.Rules.{rules}
use Rattle.matrices.proofs.Leads.{pool-none, pool-skip, pool-more}
use Rattle.matrices.proofs.joins.pool_rows.Goals as goal
use Rattle.matrices.proofs.joins.pool_rows.Goals.{then-h-g, else-h-g}

pub loop-g-init : goal.loop-g-init
loop-g-init c = pool-none _ _

pub loop-g-preserved : goal.loop-g-preserved
loop-g-preserved c =
    let L = c.loop-g in
    elim c.if-h-g.branch [
      | then-h-g w ↦ rw w.m-is (pool-more _ _ _ _ L.invariant _ _ _ c.requires.2 (search rules) (omega arith) c.from-h.ensures (λ q. omega arith) w.union_within.ensures)
      | else-h-g w ↦ rw w.m-is (pool-skip _ _ _ _ L.invariant (omega arith))
    ]
