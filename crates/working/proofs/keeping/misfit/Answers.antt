-- `keeping::misfit` meets its contract. Assumes nothing.
use mathlib.Core.Path.{sym}
use Rattle.std.proofs.lemmas.Result.{err_from_is_err_and}
use Rattle.records.specs.Check.{book_check}
use Rattle.working.proofs.Settling.{one-refused, one-misfit}
use Rattle.working.proofs.keeping.misfit.Goals as goal

pub returns-in_err-check_book : goal.returns-in_err-check_book
returns-in_err-check_book c =
    let e = err_from_is_err_and c.from_residual.result c.from_residual.ensures.1 in
    rw (e.1, e.2) (one-refused c.args.run.now c.args.claim.now (book_check c.args.run.now) (sym c.in_err-check_book.ensures))

pub returns : goal.returns
returns c =
    rw c.at.ensures (one-misfit c.args.run.now c.args.claim.now (book_check c.args.run.now) c.requires (sym c.in_ok-check_book.ensures))
