-- `beside_pages::put_log` meets its contract. Assumes nothing.
use Prim.Native.Nat.{ℕ}
use mathlib.Core.Path.{sym, ◌∙◌}
use lib.ListN.{length-replicate}
use Rattle.beside_pages.proofs.LogTexts.{refused, accepted, bytes-serve}
use Rattle.sentences.proofs.Tellings.{told}
use Rattle.beside_pages.proofs.log.put_log.Goals as goal

pub slice_bounds-measure-end : goal.slice_bounds-measure-end
slice_bounds-measure-end c = sym (length-replicate {A = ℕ} 65538 0)

pub slice_bounds-put_entries-end : goal.slice_bounds-put_entries-end
slice_bounds-put_entries-end c = sym (c.measure-made.auto.bytes ∙ length-replicate {A = ℕ} 65538 0)

pub put_entries-requires : goal.put_entries-requires
put_entries-requires c = bytes-serve _ _ c.requires (c.measure-made.auto.bytes ∙ length-replicate {A = ℕ} 65538 0)

pub shape_of-page-in-Err : goal.shape_of-page-in-Err
shape_of-page-in-Err c = c.put_refused.auto.page

pub returns-in-Err : goal.returns-in-Err
returns-in-Err c =
    told (λ a b. record { put = a; other_len_bound = b })
    (refused _ _ _ _ _ _ c.measure-made.ensures _ _ c.in-Err.is (c.put_refused.ensures.put, c.put_refused.ensures.other_len_bound))

pub shape_of-page-in-Ok : goal.shape_of-page-in-Ok
shape_of-page-in-Ok c = c.put_entries.auto.page

pub returns-in-Ok : goal.returns-in-Ok
returns-in-Ok c =
    told (λ a b. record { put = a; other_len_bound = b })
    (accepted _ _ _ _ _ _ c.measure-made.ensures _ _ _ c.in-Ok.is (c.put_entries.ensures.put, c.put_entries.ensures.log_len_bound))
