use Rattle.matrices.specs.Matrix.{bit}
use Rattle.grids.proofs.Loads.{Upto}
use Rattle.grids.proofs.load.Given as goal

abbrev pub invariant-loop-i : goal.invariant-loop-i
invariant-loop-i l = Upto (bit l.marks) l.n l.book l.i l.g
