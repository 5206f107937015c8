-- `book_pages::write_about` meets its contract. Assumes nothing.
use native.Mathlib.Omega.{arith}
use Prim.Native.Nat.{ℕ}
use lib.ListN.{length-replicate}
use mathlib.Core.Path.{sym}
use lib.Seq.{length-take-le}
use Rattle.sentences.proofs.Tellings.{told, took-bytes, page-took, page-untook, put-page}
use Rattle.book_pages.proofs.session.write_about.Goals as goal

pub slice_bounds-read_source-end : goal.slice_bounds-read_source-end
slice_bounds-read_source-end c = sym (length-replicate {A = ℕ} 49158 0)

pub read_source-read-requires : goal.read_source-read-requires
read_source-read-requires c = omega (arith, length-replicate {A = ℕ} 49158 0)

pub slice_bounds-book-end : goal.slice_bounds-book-end
slice_bounds-book-end c = (took-bytes _ _ c.in-Ok.is c.read_source-read.ensures).0

pub slice_bounds-put_session-end : goal.slice_bounds-put_session-end
slice_bounds-put_session-end c = sym (length-take-le _ _ (took-bytes _ _ c.in-Ok.is c.read_source-read.ensures).0)

pub put_session-end-requires : goal.put_session-end-requires
put_session-end-requires c = c.requires

pub shape_of-page-in-Err : goal.shape_of-page-in-Err
shape_of-page-in-Err c = c.write_unread_of.auto.page

pub returns-in-Err : goal.returns-in-Err
returns-in-Err c =
    told (λ a b. record { page = a; source_len_bound = b })
    (page-untook _ _ _ c.write_unread_of.result _ _ _ _ _ (omega arith) c.in-Err.is c.read_source-read.ensures (c.write_unread_of.ensures.page, c.write_unread_of.ensures.unread_len_bound))

pub shape_of-page-in-Ok : goal.shape_of-page-in-Ok
shape_of-page-in-Ok c = c.put_session-end.auto.page

pub returns-in-Ok : goal.returns-in-Ok
returns-in-Ok c =
    told (λ a b. record { page = a; source_len_bound = b })
    (page-took _ _ _ c.finish.result _ _ _ _ _ c.in-Ok.is c.read_source-read.ensures (put-page (c.put_session-end.ensures.put, c.put_session-end.ensures.other_len_bound) c.finish.ensures))
