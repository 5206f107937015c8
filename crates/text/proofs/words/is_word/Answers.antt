-- `text::words::is_word` meets its contract. Assumes nothing.
use Rattle.text.proofs.Names.{same-is}
use Rattle.text.proofs.words.is_word.Goals as goal

pub returns : goal.returns
returns c = same-is _ _ _ c.eq_ignore_ascii_case.ensures.test
