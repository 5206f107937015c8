-- `writing::climb` meets its contract: the loop keeps `Climbing`. Assumes nothing.
use Prim.Native.Nat.{◌+◌, ◌-◌}
use Rattle.derivations.specs.Hops.{Reaches}
use Rattle.derivations.proofs.Climbing.{Climbing}
use Rattle.derivations.proofs.writing.climb.Given as goal

abbrev pub invariant-loop-x : goal.invariant-loop-x
invariant-loop-x l = Reaches l.hop l.k l.initial.x 2047 × Climbing l.hop l.source l.k l.g l.initial.x l.initial.c l.at l.c l.i l.x

abbrev pub decreases-loop-x : goal.decreases-loop-x
decreases-loop-x l = l.at + 4094 - l.i
