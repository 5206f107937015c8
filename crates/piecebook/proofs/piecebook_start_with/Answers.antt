-- `piecebook::piecebook_start_with` meets its contract.
-- Assumes nothing.
use mathlib.Core.Path.{refl}
use Rattle.piecebook.proofs.OpenBooks.{began}
use Rattle.piecebook.proofs.piecebook_start_with.Goals as goal

pub shape_of-area-in_default : goal.shape_of-area-in_default
shape_of-area-in_default c = c.start-settled.auto.area

pub returns-in_default : goal.returns-in_default
returns-in_default c = began _ _ _ _ _ _ _ _ c.in_default.is c.start-settled.ensures c.told.ensures refl

pub shape_of-area : goal.shape_of-area
shape_of-area c = c.start-settled.auto.area

pub returns : goal.returns
returns c = began _ _ _ _ _ _ _ _ c.in-Ok.is c.start-settled.ensures c.told-2.ensures refl
