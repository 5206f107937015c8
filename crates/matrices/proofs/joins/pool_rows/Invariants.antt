-- `joins::pool_rows` meets its contract: the invariant is that the rows passed are in their leaders'. Assumes nothing.
use Rattle.matrices.specs.Led.{Pooled}
use Rattle.matrices.proofs.joins.pool_rows.Given as goal

abbrev pub invariant-loop-g : goal.invariant-loop-g
invariant-loop-g l = Pooled l.g l.lead l.initial.m l.m
