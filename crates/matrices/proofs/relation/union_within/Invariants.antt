use Rattle.matrices.proofs.Words.{Joined}
use Rattle.matrices.proofs.relation.union_within.Given as goal

abbrev pub invariant-loop-i : goal.invariant-loop-i
invariant-loop-i l = Joined l.initial.m l.m l.initial.m l.a l.b l.i
