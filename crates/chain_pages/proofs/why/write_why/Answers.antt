-- `why::write_why` meets its contract, by the words. Assumes nothing.
use Rattle.chain_pages.proofs.Asking.{words-wrong, words-said}
use Rattle.chain_pages.proofs.why.write_why.Goals as goal

pub returns-in-Err : goal.returns-in-Err
returns-in-Err c = words-wrong _ _ _ c.read_words-said.ensures _ _ c.in-Err.is (c.write_unread_of.ensures.page, c.write_unread_of.ensures.unread_len_bound)

pub returns-in-Ok : goal.returns-in-Ok
returns-in-Ok c = words-said _ _ _ c.read_words-said.ensures _ _ c.in-Ok.is c.why_source.ensures
