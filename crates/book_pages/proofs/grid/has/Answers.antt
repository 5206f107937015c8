-- `grid::has` meets its contract. Assumes nothing.
use Rattle.matrices.proofs.Laws.{and_one}
use Rattle.grids.specs.Grid.{bit_at}
use Rattle.book_pages.proofs.grid.has.Goals as goal

pub returns : goal.returns
unfolding bit_at
returns c = and_one _ _
