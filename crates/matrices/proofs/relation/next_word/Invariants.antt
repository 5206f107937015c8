use Prim.Native.Nat.{◌-◌, ◌*◌}
use mathlib.Core.Path.{◌≡◌}
use Rattle.lists.specs.First.{first}
use Rattle.matrices.specs.Matrix.{bit_of}
use Rattle.matrices.proofs.relation.next_word.Given as goal

abbrev pub invariant-loop-i : goal.invariant-loop-i
invariant-loop-i l =
    first (bit_of l.m l.r) (l.w * 64) (2048 - l.w * 64) ≡ first (bit_of l.m l.r) (l.i * 64) (2048 - l.i * 64)
