-- Runs of steps that are written one after another. Assumes nothing.
use Prim.Native.Nat.{ℕ, ◌+◌, ◌*◌, ◌≤◌, ◌<◌}
use mathlib.Core.Path.{◌≡◌, sym, ap, ◌∙◌}
use mathlib.Core.Bool.{true}
use mathlib.Core.List.{List}
use native.Mathlib.Omega.{arith}
use native.Mathlib.Numerals.{add-one}
use Rattle.lists.proofs.Bools.{both-and}
use Rattle.chain_format.specs.Citing.{Cited}
use Rattle.chain_format.specs.declared.steps.Step.{Step}
use Rattle.chain_format.specs.Step.{step_at}
use Rattle.chain_format.specs.Justified.{justified, step_ok}
use Rattle.chain_format.specs.Chain.{all_ok}
use Rattle.derivations.specs.Written.{Edited, Put}
use Rattle.chain_format.proofs.Kept.{step_kept, justified-kept, all-kept}

pub edited-kept : {c c' : List ℕ} {low high : ℕ} → Edited c c' low high → (i : ℕ) → 10 * i + 10 ≤ low → step_at c' i ≡ step_at c i
edited-kept {c} {c'} e i l = step_kept c c' i (λ j h. e.below j (omega arith))

-- one step more, that is justified by those before it
pub put-ok :
    (n : ℕ) (es : List Cited) {c c' : List ℕ} {i : ℕ} {s : Step} → Put c c' i s → justified n es i s (step_at c s.first) (step_at c s.second) ≡ true
    → all_ok n es c i ≡ true → all_ok n es c' (i + 1) ≡ true
unfolding step_ok all_ok
put-ok n es {c} {c'} {i} {s} p x a =
    let early : (j : ℕ) → j < i → step_at c j ≡ step_at c' j = λ j l. sym (edited-kept p.edited j (omega arith)) in
    let here : step_ok n es c' i ≡ true =
    ap (λ (s : Step). justified n es i s (step_at c' s.first) (step_at c' s.second)) p.step
    ∙ sym (justified-kept es i s (step_at c s.first) (step_at c s.second) (step_at c' s.first) (step_at c' s.second) (early _) (early _) n)
    ∙ x
    in
    rw (add-one i) (both-and here (sym (all-kept n es c c' i p.edited.below) ∙ a))
