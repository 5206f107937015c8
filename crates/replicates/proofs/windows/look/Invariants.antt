use Prim.Native.Nat.{◌≤◌}
use Rattle.matrices.specs.Matrix.{bit_of}
use Rattle.replicates.specs.Before.{oldest}
use Rattle.replicates.proofs.Looks.{Looking}
use Rattle.replicates.proofs.windows.look.Given as goal

abbrev pub invariant-loop-j : goal.invariant-loop-j
invariant-loop-j l = (oldest l.q ≤ l.j) × Looking (bit_of l.a) l.xs l.q l.j l.seen.apart l.seen.from
