-- `showing::last_inside` meets its contract: the loop keeps `Walking`. Assumes nothing.
use Rattle.derivations.proofs.Commoning.{Walking}
use Rattle.derivations.proofs.showing.last_inside.Given as goal

abbrev pub invariant-loop-taken : goal.invariant-loop-taken
invariant-loop-taken l = Walking l.hop l.d l.a l.b l.x l._taken l.y l.last
