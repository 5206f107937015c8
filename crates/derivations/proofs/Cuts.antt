-- The steps that were written, cut off behind the last. Assumes nothing.
use Prim.Native.Nat.{ℕ, ◌-◌, ◌*◌, ◌%◌, ◌≤◌, ◌<◌}
use mathlib.Core.Path.{◌≡◌, sym, ap, ap₂, subst, ◌∙◌}
use mathlib.Core.Logic.{◌⊎◌, inl, inr}
use mathlib.Core.Bool.{true, ◌||◌}
use mathlib.Core.List.{List}
use native.Mathlib.Omega.{arith}
use native.Mathlib.Decide.{dec_lt}
use lib.ListN.{length, get_or, take}
use lib.Seq.{length-take-le, get_or-take, ext_get_or}
use borrow.Author.Tests.{eq-eqb, le-leb}
use Rattle.lists.specs.Front.{front}
use Rattle.lists.proofs.Bools.{both-and, left_or, right_or}
use Rattle.lists.proofs.Fronts.{front_length, front-before, front-after}
use Rattle.rules.specs.Fact.{Fact, opposite}
use Rattle.chain_format.specs.declared.steps.Step.{Step}
use Rattle.chain_format.specs.Step.{step_at, steps, shows}
use Rattle.chain_format.specs.Citing.{Cited}
use Rattle.chain_format.specs.Chain.{all_ok, concludes, chain_ok}
use Rattle.chain_format.specs.Twice.{alike, Differ, NoneTwice}
use Rattle.chain_format.proofs.Kept.{step_kept, all-kept}
use Rattle.derivations.specs.Written.{Edited}

module _ (c c' : List ℕ) (r : ℕ) (room : 10 * r ≤ length c) (E : Edited c c' 0 (10 * r)) where
  long : length (take (10 * r) c') ≡ 10 * r
  long = length-take-le (10 * r) c' (omega (arith, E.sized))

  -- what is behind them is as it was
  pub cut-behind : c' ≡ front (take (10 * r) c') c
  cut-behind =
      ext_get_or 0 c' (front (take (10 * r) c') c) (E.sized ∙ sym (front_length (take (10 * r) c') c (omega (arith, long))))
      (λ j l. elim (dec_lt j (10 * r)) [ yes h ↦ before j h | no h ↦ after j (omega arith) ])
    where
      before : (j : ℕ) → j < 10 * r → get_or c' j 0 ≡ get_or (front (take (10 * r) c') c) j 0
      before j h = sym (front-before 0 (take (10 * r) c') c j (omega (arith, long)) ∙ get_or-take (10 * r) c' j 0 h)

      after : (j : ℕ) → 10 * r ≤ j → get_or c' j 0 ≡ get_or (front (take (10 * r) c') c) j 0
      after j h = E.behind j h ∙ sym (front-after 0 (take (10 * r) c') c j (omega (arith, long)))

  module _ (n : ℕ) (es : List Cited) where
    cut : (j : ℕ) → j < 10 * r → get_or (take (10 * r) c') j 0 ≡ get_or c' j 0
    cut j l = get_or-take (10 * r) c' j 0 l

    counted : steps (take (10 * r) c') ≡ r
    counted = omega (arith, long)

    -- they are a chain, whose last step shows g, the claim or its opposite
    pub cut-chain :
        (f g : Fact) → (g ≡ f) ⊎ (g ≡ opposite f) → 1 ≤ r → r ≤ 16400 → all_ok n es c' r ≡ true → shows (step_at c' (r - 1)) g ≡ true → chain_ok n es f (take (10 * r) c') ≡ true
    unfolding chain_ok concludes
    cut-chain f g w l h a x =
        rw counted
        (both-and (eq-eqb (length (take (10 * r) c') % 10) 0 (omega (arith, long)))
        (both-and (both-and (le-leb 1 r l) (le-leb r 16400 h)) (both-and (sym (all-kept n es c' (take (10 * r) c') r cut) ∙ a) (pick w))))
      where
        last : shows (step_at (take (10 * r) c') (r - 1)) g ≡ true
        last = ap (λ (s : Step). shows s g) (step_kept c' (take (10 * r) c') (r - 1) (λ j k. cut j (omega arith))) ∙ x

        pick : (g ≡ f) ⊎ (g ≡ opposite f) → (shows (step_at (take (10 * r) c') (r - 1)) f || shows (step_at (take (10 * r) c') (r - 1)) (opposite f)) ≡ true
        pick (inl q) = left_or _ (subst (λ (f : Fact). shows (step_at (take (10 * r) c') (r - 1)) f ≡ true) q last)
        pick (inr q) = right_or (shows (step_at (take (10 * r) c') (r - 1)) f) (subst (λ (f : Fact). shows (step_at (take (10 * r) c') (r - 1)) f ≡ true) q last)

module _ (c c' : List ℕ) (r : ℕ) (room : 10 * r ≤ length c) (E : Edited c c' 0 (10 * r)) where
  -- no two of them show the same
  pub cut_twice : Differ c' 0 r → NoneTwice (take (10 * r) c')
  cut_twice d i j a b h =
      let l = long c c' r room E in
      ap₂ alike (same i (omega arith)) (same j (omega arith)) ∙ d i j a b (omega arith)
    where
      same : (i : ℕ) → i < r → step_at (take (10 * r) c') i ≡ step_at c' i
      same i l = step_kept c' (take (10 * r) c') i (λ j k. get_or-take (10 * r) c' j 0 (omega arith))
