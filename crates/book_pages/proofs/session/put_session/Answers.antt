-- `session::put_session` meets its contract, by the call's outcome. Assumes nothing.
use native.Mathlib.Omega.{arith}
use Prim.Native.Nat.{ℕ}
use mathlib.Core.Path.{refl, sym, ◌∙◌}
use lib.ListN.{length-replicate}
use Rattle.pages.proofs.Puts.{chain, put_as}
use Rattle.book_pages.proofs.AskTexts.{refused, refused-short, accepted, accepted-short}
use Rattle.book_pages.proofs.session.put_session.Goals as goal

pub slice_bounds-answer-end : goal.slice_bounds-answer-end
slice_bounds-answer-end c = sym (length-replicate {A = ℕ} 4097 0)

pub slice_bounds-put_claims-end : goal.slice_bounds-put_claims-end
slice_bounds-put_claims-end c = sym (c.answer.auto.answers ∙ length-replicate {A = ℕ} 4097 0)

pub returns-in-Err : goal.returns-in-Err
returns-in-Err c =
    record { put = put_as (refused _ _ _ _ _ _ c.in-Err.ensures _ _ refl) c.put_refused.ensures.put; other_len_bound = refused-short _ _ _ _ _ _ c.in-Err.ensures _ _ refl c.put_refused.ensures.other_len_bound }

pub returns-in-Ok : goal.returns-in-Ok
returns-in-Ok c =
    record { put = put_as (accepted _ _ _ _ _ _ c.in-Ok.ensures _ _ _ refl) (chain c.put_counts-at.ensures c.put_claims.ensures); other_len_bound = accepted-short _ _ _ _ _ _ c.in-Ok.ensures _ _ _ refl (omega arith) (omega arith) (omega arith) (λ j. (c.type_inv.claims j).fits) c.requires }
