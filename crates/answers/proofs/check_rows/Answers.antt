-- `answers::check_rows` meets its contract. Assumes nothing.
use mathlib.Core.Path.{ap, ◌∙◌}
use Rattle.std.proofs.lemmas.Result.{err_from_is_err_and}
use Rattle.answers.specs.Judging.{rows_check, after_book, after_claims}
use Rattle.answers.proofs.check_rows.Goals as goal

pub returns-in_err-n : goal.returns-in_err-n
unfolding rows_check after_book
returns-in_err-n c = let p = err_from_is_err_and c.from_residual.result c.from_residual.ensures.1 in rw (p.1, p.2) (ap (after_book _) c.in_err-n.ensures)

pub returns-in_err-check_claims : goal.returns-in_err-check_claims
unfolding rows_check after_book after_claims
returns-in_err-check_claims c =
    let p = err_from_is_err_and c.from_residual-in_err-check_claims.result c.from_residual-in_err-check_claims.ensures.1 in rw (p.1, p.2)
    (ap (after_claims _) c.in_err-check_claims.ensures ∙ ap (after_book _) c.in_ok-n.ensures)

pub returns : goal.returns
unfolding rows_check after_book after_claims
returns c = ap (after_claims _) c.in_ok-check_claims.ensures ∙ ap (after_book _) c.in_ok-n.ensures
