-- `grid::put_heading` meets its contract: three texts, one behind the other. Assumes nothing.
use Rattle.pages.proofs.Puts.{chain}
use Rattle.book_pages.specs.GridText.{heading}
use Rattle.book_pages.proofs.grid.put_heading.Goals as goal

pub returns : goal.returns
unfolding heading
returns c = chain c.put-at.ensures (chain c.put_columns-at.ensures c.put_byte.ensures)
