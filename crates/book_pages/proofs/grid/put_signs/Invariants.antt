-- `grid::put_signs` meets its contract: the loop keeps that the first b signs are put. Assumes nothing.
use Rattle.pages.specs.Put.{Put}
use Rattle.grids.specs.Closed.{holds}
use Rattle.book_pages.specs.GridText.{signs}
use Rattle.book_pages.proofs.grid.put_signs.Given as goal

abbrev pub invariant-loop-b : goal.invariant-loop-b
invariant-loop-b l = Put l.initial.page l.at (signs (holds l.g) l.a l.b) l.page l.end
