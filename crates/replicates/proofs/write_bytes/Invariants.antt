use Prim.Native.Nat.{◌-◌}
use mathlib.Core.Path.{◌≡◌}
use Rattle.lists.specs.Front.{front}
use Rattle.matrices.specs.Matrix.{bit_of}
use Rattle.replicates.specs.Before.{bytes_from}
use Rattle.replicates.specs.Looking.{Reach}
use Rattle.replicates.proofs.write_bytes.Given as goal

abbrev pub invariant-loop-q : goal.invariant-loop-q
invariant-loop-q l =
    Reach (bit_of l.a) l.xs l.q l.start × (l.out ≡ front (bytes_from (bit_of l.a) l.xs l.c (l.q - l.c)) l.initial.out)
