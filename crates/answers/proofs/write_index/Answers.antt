use Rattle.answers.proofs.Calls.{alone}
use Rattle.answers.proofs.write_index.Goals as goal

pub returns : goal.returns
returns c =
    let Q = c.answer_claims.ensures in
    let P = alone _ _ _ _ _ _ _ _ _ c.answer_claims.auto.answers (Q.determined, (Q.demand2, (Q.demand3, (Q.contradicted, Q.fitting)))) in
    record { determined = P.0; demand2 = P.1.0; demand3 = P.1.1.0; contradicted = P.1.1.1.0; fitting = P.1.1.1.1 }
