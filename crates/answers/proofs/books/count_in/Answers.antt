-- `books::count_in` meets its contract. Assumes nothing.
use Rattle.contradiction.proofs.SettlingLaws.{row-free, row-clash}
use Rattle.claims.proofs.Counts.{own-count}
use Rattle.answers.proofs.Judges.{refuses, accepts}
use Rattle.answers.proofs.books.count_in.Goals as goal

pub returns-in-Err : goal.returns-in-Err
returns-in-Err c =
    let S = c.settle_counted-settled.ensures in
    rw c.from.ensures (refuses _ _ (own-count c.requires) _ (rw S.0.1 at (S.1.clash _ (row-clash c.in-Err.is))))

pub returns-in-Ok : goal.returns-in-Ok
returns-in-Ok c =
    let S = c.settle_counted-settled.ensures in
    let K = S.3.free _ _ c.in-Ok.is in
    rw c.of.ensures (accepts _ _ (own-count c.requires) _ _ (rw S.0.1 at (S.1.free (row-free c.in-Ok.is)).is) K.0 K.1)
