-- `listing::put_list` meets its contract: a line, then the numbers. Assumes nothing.
use Rattle.pages.proofs.Puts.{chain}
use Rattle.book_pages.specs.ListText.{list_lines}
use Rattle.book_pages.proofs.ListTexts.{lines-width}
use Rattle.book_pages.proofs.listing.put_list.Goals as goal

pub returns : goal.returns
unfolding list_lines
returns c =
    record { put = chain (chain c.put-at.ensures c.put_number-at.ensures) c.put_numbers.ensures; list_len_bound = lines-width c.args.list.now c.requires (λ i. (c.type_inv.list i).fits) }
