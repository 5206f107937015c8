use Rattle.grids.specs.Closed.{Grown}
use Rattle.grids.proofs.Growing.{AllRows, room}
use Rattle.grids.proofs.rounds.close.Given as goal

abbrev pub invariant-loop-next : goal.invariant-loop-next
invariant-loop-next l = AllRows l.last × Grown l.initial.last l.last

abbrev pub decreases-loop-next : goal.decreases-loop-next
decreases-loop-next l = room l.last
