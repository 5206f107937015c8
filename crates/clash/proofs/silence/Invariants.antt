-- `clash::silence` meets its contract. Assumes nothing.
use Rattle.clash.proofs.Silencing.{Sofar}
use Rattle.clash.proofs.silence.Given as goal

abbrev pub invariant-loop-p : goal.invariant-loop-p
invariant-loop-p l = Sofar l.book l.i l.out l.p
