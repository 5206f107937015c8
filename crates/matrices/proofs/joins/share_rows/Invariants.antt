-- `joins::share_rows` meets its contract: the invariant is that the rows passed have their leaders'. Assumes nothing.
use Rattle.matrices.specs.Led.{Shared}
use Rattle.matrices.proofs.joins.share_rows.Given as goal

abbrev pub invariant-loop-g : goal.invariant-loop-g
invariant-loop-g l = Shared l.g l.lead l.initial.m l.m
