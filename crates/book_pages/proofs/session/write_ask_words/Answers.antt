-- `book_pages::write_ask_words` meets its contract. Assumes nothing.
use native.Mathlib.Omega.{arith}
use Rattle.sentences.proofs.Tellings.{told, page-entry, page-wrong}
use Rattle.book_pages.specs.AskText.{ask_words_text}
use Rattle.book_pages.proofs.session.write_ask_words.Goals as goal

pub returns-in-Err : goal.returns-in-Err
unfolding ask_words_text
returns-in-Err c =
    told (λ a b. record { page = a; words_len_bound = b })
    (page-wrong _ _ _ c.write_unread_of.result _ _ _ c.read_words-said.ensures (omega arith) c.in-Err.is (c.write_unread_of.ensures.page, c.write_unread_of.ensures.unread_len_bound))

pub returns-in-Ok : goal.returns-in-Ok
unfolding ask_words_text
returns-in-Ok c =
    told (λ a b. record { page = a; words_len_bound = b })
    (page-entry _ _ _ c.write_about.result _ _ _ c.read_words-said.ensures c.in-Ok.is (rw c.six_bytes-six.ensures at c.write_about.ensures.page, rw c.six_bytes-six.ensures at c.write_about.ensures.source_len_bound))
