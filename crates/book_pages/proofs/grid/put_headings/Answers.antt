-- `grid::put_headings` meets its contract. Assumes nothing.
use Rattle.pages.proofs.Puts.{chain, put_as}
use Rattle.book_pages.proofs.GridTexts.{one-heading, two-headings}
use Rattle.book_pages.proofs.grid.put_headings.Goals as goal

pub returns-then-n-le-TEN : goal.returns-then-n-le-TEN
returns-then-n-le-TEN c = put_as (one-heading _ c.if-n-le-TEN.true) c.put_heading.ensures

pub returns : goal.returns
returns c = put_as (two-headings _ c.if-n-le-TEN.false) (chain c.put_heading-at.ensures c.put_heading-2.ensures)
