-- `pages::put_line` meets its contract: the loop keeps what is left to put of the rest of the table. Assumes nothing.
use Rattle.pages.proofs.Entries.{Passed}
use Rattle.pages.proofs.put_line.Given as goal

abbrev pub invariant-loop-x : goal.invariant-loop-x
invariant-loop-x l = Passed l.initial.page l.at l.table l.k l.page l.end l.left l.x-index
