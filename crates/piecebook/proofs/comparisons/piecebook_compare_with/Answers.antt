-- `piecebook::comparisons::piecebook_compare_with` meets its contract. Assumes nothing.
use Rattle.piecebook.proofs.Comparing.{compared, still-demanded}
use Rattle.piecebook.proofs.comparisons.piecebook_compare_with.Goals as goal

pub shape_of-out : goal.shape_of-out
shape_of-out c = c.compare-comparison.auto.out

pub returns : goal.returns
returns c =
    let C = c.compare-comparison.ensures in
    record { determined = compared _ _ _ _ C.determined c.reported_of.ensures; demanded = still-demanded _ _ _ _ C.determined C.demanded }
