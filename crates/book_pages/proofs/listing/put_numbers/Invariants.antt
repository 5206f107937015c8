-- `listing::put_numbers` meets its contract: the loop keeps that the first i numbers are put. Assumes nothing.
use Rattle.pages.specs.Put.{Put}
use Rattle.book_pages.specs.ListText.{number_lines}
use Rattle.book_pages.proofs.listing.put_numbers.Given as goal

abbrev pub invariant-loop-x : goal.invariant-loop-x
invariant-loop-x l = Put l.initial.page l.at (number_lines l.list l.x-index) l.page l.end
