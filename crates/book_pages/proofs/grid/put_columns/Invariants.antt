-- `grid::put_columns` meets its contract: the loop keeps that the first b digits are put. Assumes nothing.
use Rattle.pages.specs.Put.{Put}
use Rattle.book_pages.specs.GridText.{columns}
use Rattle.book_pages.proofs.grid.put_columns.Given as goal

abbrev pub invariant-loop-b : goal.invariant-loop-b
invariant-loop-b l = Put l.initial.page l.at (columns l.upper l.b) l.page l.end
