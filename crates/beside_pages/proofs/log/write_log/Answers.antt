-- `beside_pages::write_log` meets its contract. Assumes nothing.
use native.Mathlib.Omega.{arith}
use Prim.Native.Nat.{ℕ}
use lib.ListN.{length-replicate}
use lib.Dec.{lit≤}
use mathlib.Core.Path.{sym}
use lib.Seq.{length-take-le}
use Rattle.sentences.proofs.Tellings.{told, took-bytes, page-took, page-untook}
use Rattle.beside_pages.specs.LogText.{log_text}
use Rattle.beside_pages.proofs.log.write_log.Goals as goal

pub slice_bounds-read_source-end : goal.slice_bounds-read_source-end
slice_bounds-read_source-end c = sym (length-replicate {A = ℕ} 49158 0)

pub read_source-read-requires : goal.read_source-read-requires
read_source-read-requires c = omega (arith, length-replicate {A = ℕ} 49158 0)

pub slice_bounds-book-end : goal.slice_bounds-book-end
slice_bounds-book-end c = (took-bytes _ _ c.in-Ok.is c.read_source-read.ensures).0

pub slice_bounds-write_entries-end : goal.slice_bounds-write_entries-end
slice_bounds-write_entries-end c = sym (length-take-le _ _ (took-bytes _ _ c.in-Ok.is c.read_source-read.ensures).0)

pub shape_of-page-in-Err : goal.shape_of-page-in-Err
shape_of-page-in-Err c = c.write_unread_of.auto.page

pub returns-in-Err : goal.returns-in-Err
unfolding log_text
returns-in-Err c =
    told (λ a b. record { page = a; other_len_bound = b })
    (page-untook _ _ _ c.write_unread_of.result _ _ _ _ _ (lit≤ tt) c.in-Err.is c.read_source-read.ensures (c.write_unread_of.ensures.page, c.write_unread_of.ensures.unread_len_bound))

pub shape_of-page-in-Ok : goal.shape_of-page-in-Ok
shape_of-page-in-Ok c = c.write_entries.auto.page

pub returns-in-Ok : goal.returns-in-Ok
unfolding log_text
returns-in-Ok c =
    told (λ a b. record { page = a; other_len_bound = b })
    (page-took _ _ _ c.write_entries.result _ _ _ _ _ c.in-Ok.is c.read_source-read.ensures (c.write_entries.ensures.page, c.write_entries.ensures.other_len_bound))
