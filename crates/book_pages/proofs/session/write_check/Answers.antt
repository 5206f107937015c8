-- `book_pages::write_check` meets its contract. Assumes nothing.
use Rattle.book_pages.specs.AskText.{check_text}
use Rattle.book_pages.proofs.session.write_check.Goals as goal

pub returns : goal.returns
unfolding check_text
returns c = record { page = c.write_about.ensures.page; source_len_bound = c.write_about.ensures.source_len_bound }
