-- `beside_pages::put_comparison` meets its contract. Assumes nothing.
use Prim.Native.Nat.{ℕ}
use mathlib.Core.Path.{refl, sym, ◌∙◌}
use lib.ListN.{length-replicate}
use Rattle.pages.proofs.Puts.{chain, put_as}
use Rattle.beside_pages.proofs.ComparisonTexts.{refused, refused-short, compared, compared-short, bytes-serve}
use Rattle.beside_pages.proofs.comparison.put_comparison.Goals as goal

pub slice_bounds-compared-end : goal.slice_bounds-compared-end
slice_bounds-compared-end c = sym (length-replicate {A = ℕ} 12291 0)

pub slice_bounds-put_pairs-end : goal.slice_bounds-put_pairs-end
slice_bounds-put_pairs-end c = sym (c.compared.auto.bytes ∙ length-replicate {A = ℕ} 12291 0)

pub put_pairs-requires : goal.put_pairs-requires
put_pairs-requires c = bytes-serve _ _ c.requires (c.compared.auto.bytes ∙ length-replicate {A = ℕ} 12291 0)

pub shape_of-page-in-Err : goal.shape_of-page-in-Err
shape_of-page-in-Err c = c.put_refused_in.auto.page

pub returns-in-Err : goal.returns-in-Err
returns-in-Err c =
    record { put = put_as (refused _ _ _ _ _ _ _ _ c.in-Err.ensures _ _ _ refl) c.put_refused_in.ensures.put; claims_len_bound = refused-short _ _ _ _ _ _ _ _ c.in-Err.ensures _ _ _ refl c.put_refused_in.ensures.claims_len_bound }

pub shape_of-page-in-Ok : goal.shape_of-page-in-Ok
shape_of-page-in-Ok c = c.put_pairs.auto.page ∙ c.put_together-at.auto.page

pub returns-in-Ok : goal.returns-in-Ok
returns-in-Ok c =
    record { put = put_as (compared _ _ _ _ _ _ _ _ c.in-Ok.ensures _ refl) (chain c.put_together-at.ensures c.put_pairs.ensures); claims_len_bound = compared-short _ _ _ _ _ _ _ _ c.in-Ok.ensures _ refl (λ j. (c.type_inv.asked j).fits) c.requires }
