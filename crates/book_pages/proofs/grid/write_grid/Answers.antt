-- `book_pages::write_grid` meets its contract. Assumes nothing.
use native.Mathlib.Omega.{arith}
use Prim.Native.Nat.{ℕ}
use lib.ListN.{length-replicate}
use mathlib.Core.Path.{sym}
use lib.Seq.{length-take-le}
use Rattle.sentences.proofs.Tellings.{told, took-bytes, page-took, page-untook, put-page}
use Rattle.book_pages.specs.GridText.{grid_text}
use lib.Dec.{lit≤}
use borrow.Author.Rules.{rules}
use Rattle.book_pages.proofs.grid.write_grid.Goals as goal

pub slice_bounds-read_source-end : goal.slice_bounds-read_source-end
slice_bounds-read_source-end c = sym (length-replicate {A = ℕ} 49158 0)

pub read_source-read-requires : goal.read_source-read-requires
read_source-read-requires c = omega (arith, length-replicate {A = ℕ} 49158 0)

pub slice_bounds-book-end : goal.slice_bounds-book-end
slice_bounds-book-end c = (took-bytes _ _ c.in-Ok.is c.read_source-read.ensures).0

pub slice_bounds-put_grid-end : goal.slice_bounds-put_grid-end
slice_bounds-put_grid-end c = sym (length-take-le _ _ (took-bytes _ _ c.in-Ok.is c.read_source-read.ensures).0)

pub returns-in-Err : goal.returns-in-Err
unfolding grid_text
returns-in-Err c =
    told (λ a b. record { page = a; source_len_bound = b })
    (page-untook _ _ _ _ _ _ _ _ _ (lit≤ tt) c.in-Err.is c.read_source-read.ensures (search rules))

pub shape_of-page-in-Ok : goal.shape_of-page-in-Ok
shape_of-page-in-Ok c = c.put_grid-end.auto.page

pub returns-in-Ok : goal.returns-in-Ok
unfolding grid_text
returns-in-Ok c =
    told (λ a b. record { page = a; source_len_bound = b })
    (page-took _ _ _ c.finish.result _ _ _ _ _ c.in-Ok.is c.read_source-read.ensures (put-page (c.put_grid-end.ensures.put, c.put_grid-end.ensures.source_len_bound) c.finish.ensures))
