-- `contradicted::clash_book` meets its contract, by the outcome. Assumes nothing.
use mathlib.Core.Path.{refl}
use native.Mathlib.Omega.{arith}
use Rattle.chain_pages.proofs.Clashes.{counted, refused-with}
use Rattle.chain_pages.proofs.contradicted.clash_book.Goals as goal

pub returns-in-Ok : goal.returns-in-Ok
returns-in-Ok c =
    counted _ _ _ c.in-Ok.ensures _ _ _ refl (omega arith) (omega arith) (omega arith) c.put_counts.ensures

pub returns-in-Err : goal.returns-in-Err
returns-in-Err c =
    refused-with _ _ _ c.in-Err.ensures _ _ refl c.put_refused_book-at.ensures.put c.put_refused_book-at.ensures.book_len_bound c.put_clash.ensures
