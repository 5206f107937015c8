use Rattle.matrices.specs.Flow.{Sorted}
use Rattle.matrices.proofs.Flows.{DoneTo}
use Rattle.matrices.proofs.joins.join_along.Given as goal

abbrev pub invariant-loop-i : goal.invariant-loop-i
invariant-loop-i l =
    (R : Sorted l.e l.n l.order) → DoneTo l.e l.n R.at l.initial.m l.m l.i
