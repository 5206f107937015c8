-- Bytes behind a run of steps have no influence on it. Assumes nothing.
use Prim.Native.Nat.{ℕ, zero, suc, ◌+◌, ◌*◌, ◌<◌}
use mathlib.Core.Path.{◌≡◌, refl, sym, ap, ap₂, ◌∙◌}
use mathlib.Core.Bool.{Bool, false, ◌&&◌}
use mathlib.Core.List.{List}
use native.Mathlib.Omega.{arith}
use native.Mathlib.Decide.{ℕ_discrete}
use lib.Dec.{ltb}
use lib.ListN.{get_or}
use borrow.Author.Tests.{ltb-true, ltb-false}
use Rattle.lists.proofs.Bools.{Known, is_true, is_false, known}
use Rattle.chain_format.specs.Citing.{Cited}
use Rattle.chain_format.specs.declared.steps.Step.{Step}
use Rattle.chain_format.specs.Step.{step_at}
use Rattle.chain_format.specs.Justified.{justified, step_ok}
use Rattle.chain_format.specs.Chain.{all_ok}
use Rattle.chain_format.proofs.Stepping.{Search, by-record, by-c, by-f, by-e', by-d, by-e, late-first, late-second}

-- two runs of bytes that agree up to the end of step i have the same step i
pub step_kept : (c c' : List ℕ) (i : ℕ) → ((j : ℕ) → j < 10 * i + 10 → get_or c' j 0 ≡ get_or c j 0) → step_at c' i ≡ step_at c i
unfolding step_at
step_kept c c' i e =
    simp (
      e (10 * i) (omega arith),
      e (10 * i + 1) (omega arith),
      e (10 * i + 2) (omega arith),
      e (10 * i + 3) (omega arith),
      e (10 * i + 4) (omega arith),
      e (10 * i + 5) (omega arith),
      e (10 * i + 6) (omega arith),
      e (10 * i + 7) (omega arith),
      e (10 * i + 8) (omega arith),
      e (10 * i + 9) (omega arith),
    )

-- premises that are not earlier are not looked at
module _ (es : List Cited) (i : ℕ) (s p q p' q' : Step) (first : s.first < i → p ≡ p') (second : s.second < i → q ≡ q') where
  module _ (r : ℕ) where
    abbrev Same : Type 0
    Same = Search es i s p q r ≡ Search es i s p' q' r

    -- a rule of two premises
    two-kept : (r ≡ 0 → ⊥) → (r ≡ 3 → ⊥) → (r ≡ 4 → ⊥) → (r ≡ 9 → ⊥) → (r ≡ 10 → ⊥) → (r ≡ 11 → ⊥) → Known (ltb s.first i) → Known (ltb s.second i) → Same
    two-kept o c f e d v (is_false l) m =
        let late : (p q : Step) → false ≡ Search es i s p q r = λ p q. late-first es i s p q r o c f e d v (ltb-false _ _ l) in
        sym (late p q) ∙ late p' q'
    two-kept o c f e d v (is_true l) (is_false m) =
        let late : (p q : Step) → false ≡ Search es i s p q r = λ p q. late-second es i s p q r o c f e d v (ltb-true _ _ l) (ltb-false _ _ m) in
        sym (late p q) ∙ late p' q'
    two-kept o c f e d v (is_true l) (is_true m) = ap₂ (λ (x y : Step). Search es i s x y r) (first (ltb-true _ _ l)) (second (ltb-true _ _ m))

    search-kept : Same
    search-kept =
        elim (ℕ_discrete r 0) [
          | yes t ↦ sym (by-record es i s p q r t) ∙ by-record es i s p' q' r t
          | no o ↦
              elim (ℕ_discrete r 3) [
                | yes t ↦ sym (by-c es i s p q r t) ∙ by-c es i s p' q' r t
                | no c ↦
                    elim (ℕ_discrete r 4) [
                      | yes t ↦ sym (by-f es i s p q r t) ∙ by-f es i s p' q' r t
                      | no f ↦ marks-kept o c f
                    ]
              ]
        ]
      where
        marks-kept : (r ≡ 0 → ⊥) → (r ≡ 3 → ⊥) → (r ≡ 4 → ⊥) → Same
        marks-kept o c f =
            elim (ℕ_discrete r 9) [
              | yes t ↦ sym (by-e' es i s p q r t) ∙ by-e' es i s p' q' r t
              | no e ↦
                  elim (ℕ_discrete r 10) [
                    | yes t ↦ sym (by-d es i s p q r t) ∙ by-d es i s p' q' r t
                    | no d ↦
                        elim (ℕ_discrete r 11) [
                          | yes t ↦ sym (by-e es i s p q r t) ∙ by-e es i s p' q' r t
                          | no v ↦ two-kept o c f e d v (known (ltb s.first i)) (known (ltb s.second i))
                        ]
                  ]
            ]

  pub justified-kept : (n : ℕ) → justified n es i s p q ≡ justified n es i s p' q'
  unfolding justified
  justified-kept n = ap (λ (b : Bool). (ltb s.a n && ltb s.b n) && b) (search-kept s.rule)

module _ (n : ℕ) (es : List Cited) (c c' : List ℕ) where
  step_ok-kept : (i : ℕ) → ((j : ℕ) → j < 10 * i + 10 → get_or c' j 0 ≡ get_or c j 0) → step_ok n es c i ≡ step_ok n es c' i
  unfolding step_ok
  step_ok-kept i e =
      let early : (j : ℕ) → j < i → step_at c j ≡ step_at c' j = λ j l. sym (step_kept c c' j (λ b h. e b (omega arith))) in
      justified-kept es i (step_at c i) _ _ _ _ (early _) (early _) n
      ∙ ap (λ (s : Step). justified n es i s (step_at c' s.first) (step_at c' s.second)) (sym (step_kept c c' i e))

  pub all-kept : (m : ℕ) → ((j : ℕ) → j < 10 * m → get_or c' j 0 ≡ get_or c j 0) → all_ok n es c m ≡ all_ok n es c' m
  unfolding all_ok
  all-kept zero e = refl
  all-kept (suc m) e = ap₂ ◌&&◌ (step_ok-kept m (λ j l. e j (omega arith))) (all-kept m (λ j l. e j (omega arith)))
