-- `catalog::check_asked` meets its contract. Assumes nothing.
use mathlib.Core.Path.{ap, ◌∙◌}
use native.Mathlib.Omega.{arith}
use Rattle.std.proofs.lemmas.Result.{err_from_is_err_and}
use Rattle.catalog.specs.Filling.{asked}
use Rattle.catalog.proofs.Calls.{low-kind, high-kind, fit-kind, kind-refused, piece-refused, asked-accepted}
use Rattle.catalog.proofs.check_asked.Goals as goal
use Rattle.catalog.proofs.check_asked.Goals.{then-kind-lt1-via-then-kind-lt1, then-kind-lt1-via-else-kind-lt1+then-kind-gt-MEETS}

pub returns-in_err-n : goal.returns-in_err-n
unfolding asked
returns-in_err-n c =
    let e = err_from_is_err_and c.from_residual.result c.from_residual.ensures.1 in
    rw (e.1, e.2) (ap (asked c.args.kind c.args.g) c.in_err-n.ensures)

pub returns-then-kind-lt1 : goal.returns-then-kind-lt1
returns-then-kind-lt1 c =
    rw c.at.ensures (elim c.then-kind-lt1.branch [
      | then-kind-lt1-via-then-kind-lt1 w ↦ kind-refused _ _ _ (low-kind c.args.kind (omega arith)) ∙ ap (asked _ _) c.in_ok-n.ensures
      | then-kind-lt1-via-else-kind-lt1+then-kind-gt-MEETS w ↦ kind-refused _ _ _ (high-kind c.args.kind (omega arith)) ∙ ap (asked _ _) c.in_ok-n.ensures
    ])

pub returns-then-n-g : goal.returns-then-n-g
returns-then-n-g c =
    rw c.at-then-n-g.ensures (piece-refused _ _ _ (fit-kind c.args.kind (omega arith) (omega arith)) c.if-n-g.true ∙ ap (asked _ _) c.in_ok-n.ensures)

pub returns : goal.returns
returns c = asked-accepted _ _ _ (fit-kind c.args.kind (omega arith) (omega arith)) c.if-n-g.false ∙ ap (asked _ _) c.in_ok-n.ensures
