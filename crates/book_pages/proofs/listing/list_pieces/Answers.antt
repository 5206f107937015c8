-- `listing::list_pieces` meets its contract: the buffers are those of the text. Assumes nothing.
use Prim.Native.Nat.{ℕ}
use mathlib.Core.Path.{sym}
use lib.ListN.{length-replicate}
use Rattle.book_pages.proofs.ListTexts.{determined}
use Rattle.book_pages.proofs.listing.list_pieces.Goals as goal

pub slice_bounds-write_catalog-end : goal.slice_bounds-write_catalog-end
slice_bounds-write_catalog-end c = sym (length-replicate {A = ℕ} 2560 0)

pub slice_bounds-write_catalog-end-2 : goal.slice_bounds-write_catalog-end-2
slice_bounds-write_catalog-end-2 c = sym (length-replicate {A = ℕ} 1280 0)

pub slice_bounds-write_catalog-end-3 : goal.slice_bounds-write_catalog-end-3
slice_bounds-write_catalog-end-3 c = sym (length-replicate {A = ℕ} 8192 0)

pub slice_bounds-write_catalog-end-4 : goal.slice_bounds-write_catalog-end-4
slice_bounds-write_catalog-end-4 c = sym (length-replicate {A = ℕ} 2048 0)

pub slice_bounds-write_catalog-end-5 : goal.slice_bounds-write_catalog-end-5
slice_bounds-write_catalog-end-5 c = sym (length-replicate {A = ℕ} 16384 0)

pub slice_bounds-write_catalog-end-6 : goal.slice_bounds-write_catalog-end-6
slice_bounds-write_catalog-end-6 c = sym (length-replicate {A = ℕ} 16384 0)

pub slice_bounds-write_catalog-end-7 : goal.slice_bounds-write_catalog-end-7
slice_bounds-write_catalog-end-7 c = sym (length-replicate {A = ℕ} 16384 0)

pub returns : goal.returns
returns c = determined _ _ _ _ _ _ c.requires c.write_catalog.ensures
