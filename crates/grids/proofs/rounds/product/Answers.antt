use native.Mathlib.Omega.{arith}
use Rattle.grids.specs.Grid.{bit_at}
use Rattle.grids.proofs.rounds.product.Goals as goal

pub returns : goal.returns
unfolding bit_at
returns c = record { bits = λ a k l m. c.loop-g.invariant.1 a (omega arith) k }
