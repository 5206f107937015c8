-- `book_pages::write_words` meets its contract. Assumes nothing.
use borrow.Author.Rules.{rules}
use native.Mathlib.Omega.{arith}
use Rattle.sentences.proofs.Tellings.{told, put-page, page-entry, page-wrong}
use Rattle.book_pages.specs.WordsText.{words_text}
use Rattle.book_pages.proofs.ShowTexts.{put-none}
use Rattle.book_pages.proofs.words.write_words.Goals as goal

pub returns-in-Err : goal.returns-in-Err
unfolding words_text
returns-in-Err c =
    told (λ a b. record { page = a; words_len_bound = b })
    (page-wrong _ _ _ _ _ _ _ c.read_words-said.ensures (omega arith) c.in-Err.is (search rules))

pub returns-in-Ok : goal.returns-in-Ok
unfolding words_text
returns-in-Ok c =
    told (λ a b. record { page = a; words_len_bound = b })
    (page-entry _ _ _ c.finish.result _ _ _ c.read_words-said.ensures c.in-Ok.is (put-page put-none c.finish.ensures))
