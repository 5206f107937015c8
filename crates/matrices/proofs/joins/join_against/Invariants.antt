use Rattle.matrices.specs.Flow.{Sorted}
use Rattle.matrices.proofs.Flows.{Sent}
use Rattle.matrices.proofs.joins.join_against.Given as goal

abbrev pub invariant-loop-i : goal.invariant-loop-i
invariant-loop-i l =
    (R : Sorted l.e l.n l.order) → Sent l.e l.n R.at l.initial.m l.m l.i
