-- `piecebook::withdraw_from` meets its contract.
-- Assumes nothing.
use Rattle.piecebook.proofs.OpenBooks.{withdrawn}
use Rattle.piecebook.proofs.withdraw_from.Goals as goal

pub shape_of-area : goal.shape_of-area
shape_of-area c = c.withdraw_from-settled.auto.area

pub returns : goal.returns
returns c =
    withdrawn _ _ _ _ _ _ c.state_of.ensures c.worked.ensures.0 c.worked.ensures.1 _ _ _ c.withdraw_from-settled.ensures
