-- `piecebook::texts::piecebook_show_claims` meets its contract. Assumes nothing.
use Rattle.piecebook.proofs.Texting.{shows-so}
use Rattle.piecebook.proofs.texts.piecebook_show_claims.Goals as goal

pub returns : goal.returns
returns c = shows-so _ _ _ _ _ c.show_claims-written.auto.page c.show_claims-written.ensures c.shown_of.ensures
