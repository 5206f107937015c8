-- `grid::put_lines` meets its contract: four texts, one behind the other. Assumes nothing.
use Rattle.pages.proofs.Puts.{chain}
use Rattle.book_pages.specs.GridText.{grid_lines}
use Rattle.book_pages.proofs.grid.put_lines.Goals as goal

pub returns : goal.returns
unfolding grid_lines
returns c = chain (chain c.put-at.ensures c.put_number-at.ensures) (chain c.put_headings-at.ensures c.put_rows.ensures)
