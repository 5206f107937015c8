use Rattle.matrices.specs.Matrix.{bit_of}
use Rattle.replicates.specs.Looking.{Reach}
use Rattle.replicates.proofs.windows.reach.Given as goal

abbrev pub invariant-loop-q : goal.invariant-loop-q
invariant-loop-q l = Reach (bit_of l.a) l.xs l.q l.start
