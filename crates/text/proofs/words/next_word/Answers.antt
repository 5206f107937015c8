-- `text::words::next_word` meets its contract. Assumes nothing.
use Rattle.text.specs.declared.words.Sort.TheVariants.{Blank}
use Rattle.text.specs.Runs.{of_sort}
use Rattle.text.proofs.Runs.{ends-in, word_at}
use Rattle.text.proofs.words.next_word.Goals as goal

pub run_end-to-requires : goal.run_end-to-requires
run_end-to-requires c = (ends-in (of_sort Blank) _ _ _ c.requires c.run_end-from.ensures).1

pub returns : goal.returns
returns c = word_at _ _ _ _ c.requires c.run_end-from.ensures c.run_end-to.ensures
