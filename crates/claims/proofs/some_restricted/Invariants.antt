-- `claims::some_restricted` meets its contract. Assumes nothing.
use Rattle.claims.proofs.Answering.{Plain}
use Rattle.claims.proofs.some_restricted.Given as goal

abbrev pub invariant-loop-i : goal.invariant-loop-i
invariant-loop-i l = Plain l.claims l.i
