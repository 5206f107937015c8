use Prim.Native.Nat.{ℕ}
use mathlib.Core.Path.{◌≡◌}
use mathlib.Core.Bool.{◌&&◌, ◌||◌}
use Rattle.lists.specs.Any.{any_below}
use Rattle.matrices.specs.Matrix.{bit}
use Rattle.grids.specs.Grid.{bit_at}
use Rattle.grids.proofs.rounds.gather.Given as goal

abbrev pub invariant-loop-h : goal.invariant-loop-h
invariant-loop-h l = ((k : ℕ) → bit l.r k ≡ (bit l.y k || any_below (λ j. bit l.x j && bit_at l.z j k) l.h))
