use Rattle.piecebook.proofs.Listings.{cataloged}
use Rattle.piecebook.proofs.catalogs.piecebook_catalog_with.Goals as goal

pub shape_of-parens : goal.shape_of-parens
shape_of-parens c = c.write_catalog-listing.auto.parens

pub shape_of-marks : goal.shape_of-marks
shape_of-marks c = c.write_catalog-listing.auto.marks

pub shape_of-shadows : goal.shape_of-shadows
shape_of-shadows c = c.write_catalog-listing.auto.shadows

pub shape_of-places : goal.shape_of-places
shape_of-places c = c.write_catalog-listing.auto.places

pub shape_of-list : goal.shape_of-list
shape_of-list c = c.write_catalog-listing.auto.list

pub shape_of-meets : goal.shape_of-meets
shape_of-meets c = c.write_catalog-listing.auto.meets

pub shape_of-apart : goal.shape_of-apart
shape_of-apart c = c.write_catalog-listing.auto.apart

pub shape_of-notpart : goal.shape_of-notpart
shape_of-notpart c = c.write_catalog-listing.auto.notpart

pub returns : goal.returns
returns c = cataloged _ _ _ _ _ _ _ c.write_catalog-listing.ensures c.counted_of.ensures
