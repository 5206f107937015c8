-- `listing::put_catalog` meets its contract, by what the catalog comes to. Assumes nothing.
use native.Mathlib.Omega.{arith}
use Prim.Native.Nat.{ℕ}
use mathlib.Core.Path.{refl, sym}
use lib.ListN.{length-replicate}
use lib.Seq.{length-take-le}
use Rattle.pages.proofs.Puts.{put_as}
use Rattle.book_pages.proofs.ListTexts.{refused, refused-short, listed-fits, listed, listed-short}
use Rattle.book_pages.proofs.listing.put_catalog.Goals as goal

pub slice_bounds-list_pieces-end : goal.slice_bounds-list_pieces-end
slice_bounds-list_pieces-end c = sym (length-replicate {A = ℕ} 2048 0)

pub slice_bounds-list-end : goal.slice_bounds-list-end
slice_bounds-list-end c = listed-fits _ c.args.source.now _ _ _ _ c.in-Ok.ensures _ refl

pub slice_bounds-put_list-end : goal.slice_bounds-put_list-end
slice_bounds-put_list-end c =
    sym (length-take-le _ _ (listed-fits _ c.args.source.now _ _ _ _ c.in-Ok.ensures _ refl))

pub put_list-requires : goal.put_list-requires
put_list-requires c =
    omega (arith, length-take-le _ _ (listed-fits _ c.args.source.now _ _ _ _ c.in-Ok.ensures _ refl), listed-fits _ c.args.source.now _ _ _ _ c.in-Ok.ensures _ refl, c.list_pieces.auto.list, length-replicate {A = ℕ} 2048 0)

pub returns-in-Err : goal.returns-in-Err
returns-in-Err c =
    record { put = put_as (refused _ _ _ _ _ _ c.in-Err.ensures _ _ refl) c.put_refused_book.ensures.put; g_len_bound = refused-short _ _ _ _ _ _ c.in-Err.ensures _ _ refl c.put_refused_book.ensures.book_len_bound }

pub returns-in-Ok : goal.returns-in-Ok
returns-in-Ok c =
    record { put = put_as (listed _ _ _ _ _ _ c.in-Ok.ensures _ refl) c.put_list.ensures.put; g_len_bound = listed-short _ _ _ _ _ _ c.in-Ok.ensures _ refl c.put_list.ensures.list_len_bound }
