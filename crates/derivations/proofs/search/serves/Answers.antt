-- `derivations::search::serves` meets its contract. Assumes nothing.
use mathlib.Core.Path.{sym, ◌∙◌}
use Rattle.derivations.proofs.Serving.{serves-other, serves-barred, serves-straight, serves-ordered, serves-swapped}
use Rattle.derivations.proofs.search.serves.Goals as goal
use Rattle.derivations.proofs.search.serves.Goals.{then-r-kind_for-via-then-r-kind_for, then-r-kind_for-via-else-r-kind_for+then-not-lets}
use borrow.Author.Tests.{eq-eqb}
use mathlib.Core.Bool.{not}
use mathlib.Core.Path.{ap}

pub returns-then-r-kind_for : goal.returns-then-r-kind_for
returns-then-r-kind_for c =
    elim c.then-r-kind_for.branch [
      | then-r-kind_for-via-then-r-kind_for w ↦ serves-other _ _ _ _ _ _ _ (λ q. w.if-r-kind_for.true (q ∙ sym c.kind_for.ensures))
      | then-r-kind_for-via-else-r-kind_for+then-not-lets w ↦ serves-barred _ _ _ _ _ _ _ (w.if-r-kind_for.false ∙ c.kind_for.ensures) (sym w.lets.ensures ∙ w.if-not-lets.true)
    ]

pub returns-then-joins : goal.returns-then-joins
returns-then-joins c = c.if-joins.true ∙ serves-straight _ _ _ _ _ _ _ (c.if-r-kind_for.false ∙ c.kind_for.ensures) (sym c.lets.ensures ∙ c.if-not-lets.false) (sym c.joins.ensures ∙ c.if-joins.true)

pub returns-then-r-ne-NOTPART : goal.returns-then-r-ne-NOTPART
returns-then-r-ne-NOTPART c =
    c.joins-then-r-ne-NOTPART.ensures ∙ serves-swapped _ _ _ _ _ _ _ (c.if-r-kind_for.false ∙ c.kind_for.ensures) (sym c.lets.ensures ∙ c.if-not-lets.false) (sym c.joins.ensures ∙ c.if-joins.false) c.if-r-ne-NOTPART.true

pub returns-else-r-ne-NOTPART : goal.returns-else-r-ne-NOTPART
returns-else-r-ne-NOTPART c =
    ap not (eq-eqb _ _ c.if-r-ne-NOTPART.false) ∙ serves-ordered _ _ _ _ _ _ _ (c.if-r-kind_for.false ∙ c.kind_for.ensures) (sym c.lets.ensures ∙ c.if-not-lets.false) (sym c.joins.ensures ∙ c.if-joins.false) c.if-r-ne-NOTPART.false
