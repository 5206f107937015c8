-- `replicates::bad_window` meets its contract: the pieces passed are the book's. Assumes nothing.
use Rattle.replicates.proofs.Rows.{Sound}
use Rattle.replicates.proofs.bad_window.Given as goal

abbrev pub invariant-loop-j : goal.invariant-loop-j
invariant-loop-j l = Sound l.n l.pieces l.j
