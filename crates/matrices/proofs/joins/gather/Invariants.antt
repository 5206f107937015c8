use Rattle.lists.proofs.Searches.{Sought}
use Rattle.matrices.specs.Matrix.{bit_of}
use Prim.Native.Nat.{ℕ, ◌-◌}
use Rattle.matrices.specs.Matrix.{Joins}
use Rattle.matrices.proofs.Products.{part}
use Rattle.matrices.proofs.joins.gather.Given as goal

abbrev pub invariant-loop-x : goal.invariant-loop-x
invariant-loop-x l = (from : ℕ) × Sought (bit_of l.a l.r) from 2048 l.x × Joins l.initial.dst l.dst l.r (part l.a l.b l.r from)

abbrev pub decreases-loop-x : goal.decreases-loop-x
decreases-loop-x l = 2048 - l.x
