-- `text::reading::entries_on` meets its contract. Assumes nothing.
use mathlib.Core.Path.{◌∙◌}
use Rattle.text.proofs.Places.{counted-on}
use Rattle.text.proofs.reading.entries_on.Goals as goal

pub returns : goal.returns
returns c = c.from.ensures ∙ counted-on _ _ _ c.next_word-w.ensures
