use Rattle.lists.proofs.Searches.{Sought}
use Rattle.matrices.specs.Matrix.{bit_of}
use Prim.Native.Nat.{ℕ, ◌-◌}
use Rattle.matrices.proofs.Flows.{PushedTo}
use Rattle.matrices.proofs.joins.push.Given as goal

abbrev pub invariant-loop-p : goal.invariant-loop-p
invariant-loop-p l = (from : ℕ) × Sought (bit_of l.e l.h) from 2048 l.p × PushedTo l.e l.initial.m l.m l.h from

abbrev pub decreases-loop-p : goal.decreases-loop-p
decreases-loop-p l = 2048 - l.p
