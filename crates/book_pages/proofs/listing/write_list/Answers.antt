-- `book_pages::write_list` meets its contract. Assumes nothing.
use native.Mathlib.Omega.{arith}
use Rattle.sentences.proofs.Tellings.{told, page-entry, page-wrong}
use Rattle.book_pages.specs.ListText.{list_text}
use Rattle.book_pages.proofs.listing.write_list.Goals as goal

pub returns-in-Err : goal.returns-in-Err
unfolding list_text
returns-in-Err c =
    told (λ a b. record { page = a; words_len_bound = b })
    (page-wrong _ _ _ c.write_unread_of.result _ _ _ c.read_words-said.ensures (omega arith) c.in-Err.is (c.write_unread_of.ensures.page, c.write_unread_of.ensures.unread_len_bound))

pub returns-in-Ok : goal.returns-in-Ok
unfolding list_text
returns-in-Ok c =
    told (λ a b. record { page = a; words_len_bound = b })
    (page-entry _ _ _ c.write_pieces.result _ _ _ c.read_words-said.ensures c.in-Ok.is (c.write_pieces.ensures.page, c.write_pieces.ensures.g_len_bound))
