-- `grid::put_rows` meets its contract: the loop keeps that the first a lines are put. Assumes nothing.
use Rattle.pages.specs.Put.{Put}
use Rattle.grids.specs.Closed.{holds}
use Rattle.book_pages.specs.GridText.{rows}
use Rattle.book_pages.proofs.grid.put_rows.Given as goal

abbrev pub invariant-loop-a : goal.invariant-loop-a
invariant-loop-a l = Put l.initial.page l.at (rows (holds l.g) l.n l.a) l.page l.end
