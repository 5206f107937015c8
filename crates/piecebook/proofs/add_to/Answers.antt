-- `piecebook::add_to` meets its contract.
-- Assumes nothing.
use Rattle.piecebook.proofs.OpenBooks.{added}
use Rattle.piecebook.proofs.add_to.Goals as goal

pub shape_of-area : goal.shape_of-area
shape_of-area c = c.add_to-settled.auto.area

pub returns : goal.returns
returns c = added _ _ _ _ _ _ c.state_of.ensures c.worked.ensures.0 c.worked.ensures.1 _ _ _ c.add_to-settled.ensures
