-- `claims::answer_each` meets its contract. Assumes nothing.
use Rattle.closure.specs.Void.{void_of}
use Rattle.claims.proofs.Answering.{Standing}
use Rattle.claims.proofs.answer_each.Given as goal

abbrev pub invariant-loop-i : goal.invariant-loop-i
invariant-loop-i l = Standing (void_of l.voids) l.origin l.claims l.d l.u l.p l.t l.q l.initial.answers l.answers l.i
