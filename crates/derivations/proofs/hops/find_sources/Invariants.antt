-- `hops::find_sources` meets its contract: the loop keeps the sources among the records passed. Assumes nothing.
use Rattle.derivations.specs.Sources.{Sources}
use Rattle.derivations.proofs.hops.find_sources.Given as goal

abbrev pub invariant-loop-i : goal.invariant-loop-i
invariant-loop-i l = Sources l.claim l.book l.hop l.i l.source
