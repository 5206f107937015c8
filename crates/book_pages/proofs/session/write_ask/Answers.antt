-- `book_pages::write_ask` meets its contract. Assumes nothing.
use native.Mathlib.Omega.{arith}
use mathlib.Core.Path.{sym}
use lib.Seq.{length-take-le}
use Rattle.sentences.proofs.Tellings.{told, took-bytes, page-took, page-untook}
use Rattle.book_pages.specs.AskText.{ask_text}
use Prim.Native.Nat.{ℕ}
use lib.ListN.{length-replicate}
use lib.Dec.{lit≤}
use Rattle.book_pages.proofs.session.write_ask.Goals as goal

pub slice_bounds-read_source-end : goal.slice_bounds-read_source-end
slice_bounds-read_source-end c = sym (length-replicate {A = ℕ} 49158 0)

pub read_source-read-requires : goal.read_source-read-requires
read_source-read-requires c = omega (arith, length-replicate {A = ℕ} 49158 0)

pub slice_bounds-book-end : goal.slice_bounds-book-end
slice_bounds-book-end c = (took-bytes _ _ c.in-Ok.is c.read_source-read.ensures).0

pub slice_bounds-write_answers-end : goal.slice_bounds-write_answers-end
slice_bounds-write_answers-end c = sym (length-take-le _ _ (took-bytes _ _ c.in-Ok.is c.read_source-read.ensures).0)

pub shape_of-page-in-Err : goal.shape_of-page-in-Err
shape_of-page-in-Err c = c.write_unread_of.auto.page

pub returns-in-Err : goal.returns-in-Err
unfolding ask_text
returns-in-Err c =
    told (λ a b. record { page = a; claims_len_bound = b })
    (page-untook _ _ _ c.write_unread_of.result _ _ _ _ _ (lit≤ tt) c.in-Err.is c.read_source-read.ensures (c.write_unread_of.ensures.page, c.write_unread_of.ensures.unread_len_bound))

pub shape_of-page-in-Ok : goal.shape_of-page-in-Ok
shape_of-page-in-Ok c = c.write_answers.auto.page

pub returns-in-Ok : goal.returns-in-Ok
unfolding ask_text
returns-in-Ok c =
    told (λ a b. record { page = a; claims_len_bound = b })
    (page-took _ _ _ c.write_answers.result _ _ _ _ _ c.in-Ok.is c.read_source-read.ensures (c.write_answers.ensures.page, c.write_answers.ensures.claims_len_bound))
