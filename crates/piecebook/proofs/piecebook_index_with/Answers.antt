use Rattle.piecebook.proofs.ResultsLaws.{handed}
use Rattle.piecebook.proofs.piecebook_index_with.Goals as goal

pub shape_of-parens : goal.shape_of-parens
shape_of-parens c = c.write_index-outcome.auto.parens

pub shape_of-marks : goal.shape_of-marks
shape_of-marks c = c.write_index-outcome.auto.marks

pub shape_of-shadows : goal.shape_of-shadows
shape_of-shadows c = c.write_index-outcome.auto.shadows

pub shape_of-places : goal.shape_of-places
shape_of-places c = c.write_index-outcome.auto.places

pub returns : goal.returns
returns c =
    let Q = c.write_index-outcome.ensures in
    let P = handed _ _ _ _ _ _ (Q.determined, (Q.demand2, (Q.demand3, (Q.contradicted, Q.fitting)))) c.result_of.ensures in
    record { exported = P.0; demand2 = P.1.0; demand3 = P.1.1.0; contradicted = P.1.1.1.0; fitting = P.1.1.1.1 }
