-- `checks::check_form` meets its contract: each way out is one of the rows, whose tests the branches are. Assumes nothing.
use mathlib.Core.Path.{refl, sym, ◌∙◌}
use native.Mathlib.Omega.{arith}
use Rattle.records.proofs.Rows.{no_kind, unknown, too_large, marks-one, in_order, any_order}
use Rattle.records.proofs.checks.check_form.Goals as goal

pub returns-then-not-admits : goal.returns-then-not-admits
returns-then-not-admits c = sym (no_kind _ _ (sym c.admits.ensures ∙ c.if-not-admits.true))

pub returns-then-r-gt1 : goal.returns-then-r-gt1
returns-then-r-gt1 c = sym (unknown _ _ (sym c.admits.ensures ∙ c.if-not-admits.false) (omega arith))

pub returns-then-largest_named-gt-LAST_PIECE : goal.returns-then-largest_named-gt-LAST_PIECE
returns-then-largest_named-gt-LAST_PIECE c = sym (too_large _ _ (sym c.admits.ensures ∙ c.if-not-admits.false) (omega arith) (omega arith))

pub returns-then-r-eq-VOID : goal.returns-then-r-eq-VOID
returns-then-r-eq-VOID c =
    c.check_mark.ensures
    ∙ sym (marks-one _ _ (sym c.admits.ensures ∙ c.if-not-admits.false) (omega arith) (omega arith) (omega arith))

pub returns-in-Former : goal.returns-in-Former
returns-in-Former c =
    c.check_order.ensures ∙ sym (in_order _ _ (sym c.admits.ensures ∙ c.if-not-admits.false) (omega arith) (omega arith) refl c.in-Former.is (λ e. omega arith))

pub returns-in-Current : goal.returns-in-Current
returns-in-Current c =
    sym (any_order _ _ (sym c.admits.ensures ∙ c.if-not-admits.false) (omega arith) (omega arith) refl c.in-Current.is (λ e. omega arith))
