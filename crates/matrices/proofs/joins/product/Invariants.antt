use Rattle.matrices.specs.Matrix.{Multiplied}
use Rattle.matrices.proofs.joins.product.Given as goal

abbrev pub invariant-loop-r : goal.invariant-loop-r
invariant-loop-r l = Multiplied l.initial.dst l.dst l.a l.b l.r
