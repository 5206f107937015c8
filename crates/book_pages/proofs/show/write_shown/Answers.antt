-- `book_pages::write_shown` meets its contract. Assumes nothing.
use native.Mathlib.Omega.{arith}
use mathlib.Core.Path.{refl, ap}
use lib.ListN.{length}
use Rattle.sentences.proofs.Tellings.{told, put-page, page-as}
use Rattle.book_pages.proofs.ShowTexts.{refused, empty, shown, shown-short}
use Rattle.book_pages.proofs.show.write_shown.Goals as goal

pub returns-then-book-eq0 : goal.returns-then-book-eq0
returns-then-book-eq0 c =
    told (λ a b. record { page = a; source_len_bound = b })
    (page-as _ _ _ c.finish-then-book-eq0.result _ _ (empty _ _ _ c.in-Ok.ensures _ refl c.if-book-eq0.true) (put-page {most = 229404} (c.put-end.ensures, omega arith) c.finish-then-book-eq0.ensures))

pub returns-in-Err : goal.returns-in-Err
returns-in-Err c =
    told (λ a b. record { page = a; source_len_bound = b })
    (page-as _ _ _ c.finish.result _ _ (refused _ _ _ c.in-Err.ensures _ _ refl) (put-page {most = 229404} (c.put_refused_book-end.ensures.put, omega (arith, c.put_refused_book-end.ensures.book_len_bound)) c.finish.ensures))

pub returns-else-book-eq0-clause-page : goal.returns-else-book-eq0-clause-page
returns-else-book-eq0-clause-page c =
    (page-as 229404 _ _ c.show_book.result _ _ (shown _ _ _ c.in-Ok.ensures _ refl c.if-book-eq0.false) (c.show_book.ensures, shown-short _ (λ k. (c.type_inv.book k).fits) c.requires)).0

pub returns-else-book-eq0-clause-source_len_bound : goal.returns-else-book-eq0-clause-source_len_bound
returns-else-book-eq0-clause-source_len_bound c =
    omega (arith, ap length (shown _ c.args.source.now _ c.in-Ok.ensures _ refl c.if-book-eq0.false), shown-short c.args.book.now (λ k. (c.type_inv.book k).fits) c.requires)
