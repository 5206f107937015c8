-- `report::write_session` meets its contract: the page is that of the call's outcome and answers, and the room that is lent is enough for it. Assumes nothing.
use native.Mathlib.Omega.{arith}
use borrow.Author.Rules.{rules}
use Prim.Native.Nat.{ℕ}
use mathlib.Core.Path.{refl, sym, ◌∙◌}
use lib.ListN.{length-replicate}
use Rattle.pages.proofs.Puts.{chain}
use Rattle.report.proofs.Pages.{accepted, refused}
use Rattle.report.proofs.write_session.Goals as goal

pub slice_bounds-answer-end : goal.slice_bounds-answer-end
slice_bounds-answer-end c = sym (length-replicate {A = ℕ} 4097 0)

pub slice_bounds-put_claims-end : goal.slice_bounds-put_claims-end
slice_bounds-put_claims-end c = sym (c.answer.auto.answers ∙ length-replicate {A = ℕ} 4097 0)

pub returns-in-Err : goal.returns-in-Err
returns-in-Err c =
    refused _ _ _ _ c.in-Err.ensures c.requires.1 _ _ _ refl (c.from.ensures ∙ c.refusal_number-number.ensures) (search rules) (search rules) c.put_refusal.ensures

pub returns-in-Ok : goal.returns-in-Ok
returns-in-Ok c =
    accepted _ _ _ _ c.in-Ok.ensures c.requires.1 c.in-Ok.counts.pieces c.in-Ok.counts.nodes c.in-Ok.counts.shadows refl (omega arith) (omega arith) (omega arith) (λ j. (c.type_inv.claims j).fits) c.requires.0 (chain c.put_counts-at.ensures c.put_claims.ensures)
