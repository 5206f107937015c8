-- `certain::list_pieces` meets its contract. Assumes nothing.
use Rattle.catalog.proofs.Telling.{list-certain}
use Rattle.catalog.proofs.certain.list_pieces.Goals as goal
use Rattle.catalog.proofs.certain.list_pieces.Goals.{then-kind-eq-APART, else-kind-eq-APART}

pub returns : goal.returns
returns c =
    let P = c.requires in
    list-certain _ _ _ _ _ _ P.0 P.5 P.6 P.8.whole P.9 _ _ P.1 P.2 P.3
    (λ e. elim c.if-kind-eq-APART.branch [
      | then-kind-eq-APART w ↦ rw w.m-is w.part_from.ensures
      | else-kind-eq-APART w ↦ absurd (w.if-kind-eq-APART.false e)
    ])
    _ _ _ c.list_certain.ensures
