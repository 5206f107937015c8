-- `convert::convert` meets its contract: each way out is a row, or the new book. Assumes nothing.
use mathlib.Core.Path.{sym}
use Rattle.std.proofs.lemmas.Result.{err_from_is_err_and}
use Rattle.convert.proofs.Writes.{by-short, by_rows, by-clash, by-free}
use Rattle.convert.proofs.convert.Goals as goal

pub returns-then-out-book : goal.returns-then-out-book
returns-then-out-book c =
    let P = by-short _ _ c.if-out-book.true in
    rw c.at.ensures (record { determined = P.0; accepted = P.1.0; same = P.1.1 })

pub returns-in-Err : goal.returns-in-Err
returns-in-Err c =
    let P = by_rows _ _ c.if-out-book.false _ _ (sym c.in-Err.ensures) in
    record { determined = P.0; accepted = P.1.0; same = P.1.1 }

pub returns-in_err-settle : goal.returns-in_err-settle
returns-in_err-settle c =
    let e = err_from_is_err_and c.from_residual.result c.from_residual.ensures.1 in
    let P = by-clash _ _ c.if-out-book.false _ (sym c.in-Ok.ensures) _ (c.settle.ensures.clash _ c.in_err-settle.was) in
    rw (e.1, e.2) (record { determined = P.0; accepted = P.1.0; same = P.1.1 })

pub returns : goal.returns
returns c =
    let P = by-free _ _ c.if-out-book.false _ (sym c.in-Ok.ensures) (λ k. (c.shared_slice_known-1.given k).fits) (c.settle.ensures.free c.in_ok-settle.was) _ _ c.write_book.ensures.0 c.write_book.ensures.1 in
    record { determined = P.0; accepted = P.1.0; same = P.1.1 }
