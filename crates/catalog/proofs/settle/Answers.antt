-- `catalog::settle` meets its contract. Assumes nothing.
use Rattle.catalog.proofs.settle.Goals as goal

pub settle-requires : goal.settle-requires
settle-requires c = c.requires

pub shape_of-voids : goal.shape_of-voids
shape_of-voids c = c.settle.auto.voids

pub shape_of-parens : goal.shape_of-parens
shape_of-parens c = c.settle.auto.parens

pub shape_of-marks : goal.shape_of-marks
shape_of-marks c = c.settle.auto.marks

pub shape_of-shadows : goal.shape_of-shadows
shape_of-shadows c = c.settle.auto.shadows

pub shape_of-places : goal.shape_of-places
shape_of-places c = c.settle.auto.places

pub returns : goal.returns
returns c = let S = c.settle.ensures in (S.0, S.1, S.3)
