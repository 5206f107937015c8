use mathlib.Core.Path.{ap}
use mathlib.Core.Bool.{true}
use native.Mathlib.Omega.{arith}
use Prim.Native.Nat.{ℕ}
use Rattle.matrices.specs.Matrix.{bit}
use Rattle.matrices.proofs.Laws.{one_shl}
use Rattle.grids.proofs.Rows.{row-none, row_more}
use Rattle.grids.proofs.pieces_below.Goals as goal

pub loop-i-init : goal.loop-i-init
loop-i-init c = λ k. row-none true k

pub loop-i-preserved : goal.loop-i-preserved
loop-i-preserved c = λ k. row_more (λ _. true) _ k _ _ (c.loop-i.invariant k) (ap (λ (x : ℕ). bit x k) (one_shl c.loop-i.i (omega arith)))
