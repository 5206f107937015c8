-- `row_14::contradiction` meets its contract: the invariant is `Halving`. Assumes nothing.
use Prim.Native.Nat.{◌-◌}
use Rattle.closure.specs.Void.{void_of}
use Rattle.contradiction.proofs.Halving.{Halving}
use Rattle.contradiction.proofs.row_14.contradiction.Given as goal

abbrev pub invariant-loop-low : goal.invariant-loop-low
invariant-loop-low l = Halving (void_of l.voids) l.n l.book l.low l.high

abbrev pub decreases-loop-low : goal.decreases-loop-low
decreases-loop-low l = l.high - l.low
