use Rattle.piecebook.proofs.ResultsLaws.{handed}
use Rattle.piecebook.proofs.piecebook_answer_with.Goals as goal

pub shape_of-parens : goal.shape_of-parens
shape_of-parens c = c.answer_claims-outcome.auto.parens

pub shape_of-marks : goal.shape_of-marks
shape_of-marks c = c.answer_claims-outcome.auto.marks

pub shape_of-shadows : goal.shape_of-shadows
shape_of-shadows c = c.answer_claims-outcome.auto.shadows

pub shape_of-places : goal.shape_of-places
shape_of-places c = c.answer_claims-outcome.auto.places

pub shape_of-answers : goal.shape_of-answers
shape_of-answers c = c.answer_claims-outcome.auto.answers

pub returns : goal.returns
returns c =
    let Q = c.answer_claims-outcome.ensures in
    let P = handed _ _ _ _ _ _ (Q.determined, (Q.demand2, (Q.demand3, (Q.contradicted, Q.fitting)))) c.result_of.ensures in
    record { exported = P.0; demand2 = P.1.0; demand3 = P.1.1.0; contradicted = P.1.1.1.0; fitting = P.1.1.1.1 }
