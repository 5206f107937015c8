-- Steps read one by one: those that are written and those still to be read make all. Assumes nothing.
use Prim.Native.Nat.{ℕ, zero, suc, ◌+◌, ◌*◌, ◌-◌, ◌≤◌, ◌<◌}
use mathlib.Core.Path.{◌≡◌, refl, sym, ap, ap₂, ◌∙◌}
use mathlib.Core.Bool.{true, false}
use mathlib.Core.List.{List, [], ◌++◌, append_assoc, append-nil}
use native.Mathlib.Omega.{arith}
use borrow.Author.Tests.{eq-eqb, ne_eqb, not-true, not-false}
use lib.ListN.{length, take, drop, length-append}
use lib.Seq.{take_at, length-take-le}
use Rattle.lists.specs.Front.{placed}
use Rattle.lists.proofs.Fronts.{placed-length}
use Rattle.chain_format.specs.declared.steps.Step.{Step}
use Rattle.chain_format.specs.Step.{step_bytes}
use Rattle.chain_pages.specs.Read.{after, found, step_in, left_in, steps_in}
use Rattle.chain_pages.specs.Found.{DigitsAt, StepAt}

pub steps-none : (k : ℕ) (l : List ℕ) → found l ≡ false → steps_in k l ≡ []
unfolding steps_in
steps-none zero l e = refl
steps-none (suc k) l e = rw e

pub steps-more : (k m : ℕ) (l : List ℕ) → k ≡ suc m → found l ≡ true → steps_in k l ≡ step_bytes (step_in (after l)) ++ steps_in m (left_in (after l))
unfolding steps_in
steps-more k m l k-is e = rw (k-is, e)

-- the bytes of a step behind those that are written
put-behind : (c c' x : List ℕ) (n : ℕ) → length x ≡ 10 → 10 * n ≤ length c → c' ≡ placed (10 * n) x c → take (10 * (n + 1)) c' ≡ take (10 * n) c ++ x
unfolding placed
put-behind c c' x n ten h p =
    rw p (take_at (take (10 * n) c ++ x) (drop (10 * n + length x) c) (10 * (n + 1)) (omega (arith, length-append (take (10 * n) c) x, length-take-le (10 * n) c h)))

pub put-kept : (c c' : List ℕ) (n : ℕ) (s : Step) → 10 * n + 10 ≤ length c → c' ≡ placed (10 * n) (step_bytes s) c → length c' ≡ length c
unfolding step_bytes
put-kept c c' n s h p = rw p (placed-length (step_bytes s) c (10 * n) h)

ten : (s : Step) → length (step_bytes s) ≡ 10
unfolding step_bytes
ten s = refl

module _ (s c all : List ℕ) (at n : ℕ) (so_far : take (10 * n) c ++ steps_in (16400 - n) (drop at s) ≡ all) where
  pub at-end : (from to : ℕ) → DigitsAt s at from to → from ≡ to → take (10 * n) c ≡ all
  at-end from to f e =
      let none : found (drop at s) ≡ false = not-true _ (sym f.some ∙ eq-eqb from to e) in
      sym (append-nil _) ∙ ap (λ (x : List ℕ). take (10 * n) c ++ x) (sym (steps-none (16400 - n) (drop at s) none)) ∙ so_far

  pub at_most : 16400 ≤ n → take (10 * n) c ≡ all
  unfolding steps_in
  at_most h =
      let z : 16400 - n ≡ 0 = omega arith in
      sym (append-nil _) ∙ ap (λ (k : ℕ). take (10 * n) c ++ steps_in k (drop at s)) (sym z) ∙ so_far

  pub one_more : (from next at' : ℕ) (step : Step) (c' : List ℕ) → n < 16400 → 164000 ≤ length c → DigitsAt s at from next → (from ≡ next → ⊥)
      → StepAt s next step at' → c' ≡ placed (10 * n) (step_bytes step) c → take (10 * (n + 1)) c' ++ steps_in (16400 - (n + 1)) (drop at' s) ≡ all
  one_more from next at' step c' h room f t r p =
      let some : found (drop at s) ≡ true = not-false _ (sym f.some ∙ ne_eqb from next t) in
      let k : 16400 - n ≡ suc (16400 - (n + 1)) = omega arith in
      let m = 16400 - (n + 1) in
      let behind : drop at' s ≡ left_in (after (drop at s)) = r.left ∙ ap left_in f.left in
      let bytes : step_bytes step ≡ step_bytes (step_in (after (drop at s))) = ap step_bytes (r.step_is ∙ ap step_in f.left) in
      ap₂ ◌++◌ (put-behind c c' (step_bytes step) n (ten step) (omega arith) p) (ap (steps_in m) behind)
      ∙ append_assoc (take (10 * n) c) (step_bytes step) (steps_in m (left_in (after (drop at s))))
      ∙ ap (λ (x : List ℕ). take (10 * n) c ++ (x ++ steps_in m (left_in (after (drop at s))))) bytes
      ∙ ap (λ (x : List ℕ). take (10 * n) c ++ x) (sym (steps-more (16400 - n) m (drop at s) k some))
      ∙ so_far
