-- `piecebook::texts::read_as` meets its contract. Assumes nothing.
use Rattle.piecebook.proofs.Texting.{read-so}
use Rattle.piecebook.proofs.texts.read_as.Goals as goal

pub returns : goal.returns
returns c = read-so _ _ _ _ _ _ c.read_text-read.ensures c.reading_of.ensures
