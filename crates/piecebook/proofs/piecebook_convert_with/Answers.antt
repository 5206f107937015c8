use Rattle.piecebook.proofs.ResultsLaws.{passed}
use Rattle.piecebook.proofs.piecebook_convert_with.Goals as goal

pub shape_of-out : goal.shape_of-out
shape_of-out c = c.convert-conversion.auto.out

pub returns : goal.returns
returns c =
    let C = c.convert-conversion.ensures in
    let P = passed _ _ _ _ _ (C.determined, (C.accepted, C.same)) c.converted_of.ensures in
    record { converts = P.0; accepted = P.1.0; same = P.1.1 }
