use Prim.Native.Nat.{ℕ}
use mathlib.Core.Path.{◌≡◌}
use mathlib.Core.Bool.{◌&&◌}
use lib.Dec.{ltb}
use Rattle.matrices.specs.Matrix.{bit}
use Rattle.grids.specs.Grid.{bit_at}
use Rattle.grids.proofs.rounds.column.Given as goal

abbrev pub invariant-loop-g : goal.invariant-loop-g
invariant-loop-g l = ((k : ℕ) → bit l.r k ≡ (ltb k l.g && bit_at l.x k l.i))
