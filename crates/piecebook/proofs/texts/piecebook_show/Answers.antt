-- `piecebook::texts::piecebook_show` meets its contract. Assumes nothing.
use Rattle.piecebook.proofs.Texting.{shows-so}
use Rattle.piecebook.proofs.texts.piecebook_show.Goals as goal

pub returns : goal.returns
returns c = shows-so _ _ _ _ _ c.show_book-written.auto.page c.show_book-written.ensures c.shown_of.ensures
