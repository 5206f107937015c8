use Prim.Native.Nat.{ℕ, ◌<◌}
use mathlib.Core.Path.{◌≡◌}
use mathlib.Core.Bool.{false, not, ◌&&◌}
use Rattle.matrices.specs.Matrix.{bit_of}
use Rattle.closure.specs.Void.{void_of}
use Rattle.derivations.proofs.search.find_common.Given as goal

abbrev pub invariant-loop-x : goal.invariant-loop-x
invariant-loop-x l = (j : ℕ) → j < l.x → (not (void_of l.voids j) && (bit_of l.d l.a j && bit_of l.d l.b j)) ≡ false
