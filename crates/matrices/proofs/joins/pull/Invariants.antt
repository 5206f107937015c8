use Rattle.lists.proofs.Searches.{Sought}
use Rattle.matrices.specs.Matrix.{bit_of}
use Prim.Native.Nat.{ℕ, ◌-◌}
use Rattle.matrices.specs.Matrix.{Joins}
use Rattle.matrices.proofs.Products.{part}
use Rattle.matrices.proofs.joins.pull.Given as goal

abbrev pub invariant-loop-p : goal.invariant-loop-p
invariant-loop-p l = (from : ℕ) × Sought (bit_of l.e l.h) from 2048 l.p × Joins l.initial.m l.m l.h (part l.e l.initial.m l.h from)

abbrev pub decreases-loop-p : goal.decreases-loop-p
decreases-loop-p l = 2048 - l.p
