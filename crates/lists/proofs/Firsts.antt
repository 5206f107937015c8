-- When a place is the first at which a test holds, and when there is none.
-- Assumes nothing.
use mathlib.Core.Path.{◌≡◌, refl, sym, ap, ap₂, ◌∙◌}
use mathlib.Core.Bool.{Bool, true, false}
use Prim.Native.Nat.{ℕ, zero, suc, ◌+◌, ◌-◌, ◌≤◌, ◌<◌}
use native.Mathlib.Nat.{add-zero, zero-add, suc-add}
use native.Mathlib.Decide.{ℕ_discrete}
use native.Mathlib.Omega.{arith}
use Rattle.lists.specs.First.{first}

module _ (f : ℕ → Bool) where
  here : (p n : ℕ) → f p ≡ true → first f p (suc n) ≡ p
  unfolding first
  here p n e = rw (e, first)

  later : (p n : ℕ) → f p ≡ false → first f p (suc n) ≡ first f (suc p) n
  unfolding first
  later p n e = rw (e, first)

  none : (p : ℕ) → first f p zero ≡ p
  unfolding first
  none p = refl

  pub first-none : (p n : ℕ) → ((q : ℕ) → p ≤ q → q < p + n → f q ≡ false) → first f p n ≡ p + n
  first-none p zero h = none p ∙ sym (add-zero p)
  first-none p (suc n) h =
      let e : suc p + n ≡ p + suc n = omega arith in
      later p n (h p (omega arith) (omega arith)) ∙ first-none (suc p) n (λ q g g'. h q (omega arith) (omega arith)) ∙ e

  pub first-is : (p n r : ℕ) → p ≤ r → r < p + n → ((q : ℕ) → p ≤ q → q < r → f q ≡ false) → f r ≡ true → first f p n ≡ r
  first-is p zero r g g' h e = absurd (omega arith)
  first-is p (suc n) r g g' h e =
      elim (ℕ_discrete p r) [
        | yes i ↦ here p n (ap f i ∙ e) ∙ i
        | no i ↦ later p n (h p (omega arith) (omega arith)) ∙ first-is (suc p) n r (omega arith) (omega arith) (λ q k k'. h q (omega arith) k') e
      ]

  -- places at which the test fails are passed over
  skip : (p m n : ℕ) → ((q : ℕ) → p ≤ q → q < p + m → f q ≡ false) → first f p (m + n) ≡ first f (p + m) n
  skip p zero n h = ap₂ (first f) (sym (add-zero p)) (zero-add n)
  skip p (suc m) n h =
      let e : suc p + m ≡ p + suc m = omega arith in
      ap (first f p) (suc-add m n) ∙ later p (m + n) (h p (omega arith) (omega arith)) ∙ skip (suc p) m n (λ q g g'. h q (omega arith) (omega arith))
      ∙ ap (λ (x : ℕ). first f x n) e

  -- the same of a search from p to e
  pub passed_over : (p m e : ℕ) → p + m ≤ e → ((q : ℕ) → p ≤ q → q < p + m → f q ≡ false) → first f p (e - p) ≡ first f (p + m) (e - (p + m))
  passed_over p m e g h = let n : e - p ≡ m + (e - (p + m)) = omega arith in ap (first f p) n ∙ skip p m (e - (p + m)) h

  pub found : (p e : ℕ) → p < e → f p ≡ true → first f p (e - p) ≡ p
  found p e g h = let n : e - p ≡ suc (e - suc p) = omega arith in ap (first f p) n ∙ here p (e - suc p) h

  pub ended : (p e : ℕ) → p ≡ e → first f p (e - p) ≡ e
  ended p e g = let n : e - p ≡ 0 = omega arith in ap (first f p) n ∙ none p ∙ g

  -- s is the first place from p on at which the test holds, and at most r
  abbrev pub Hit : ℕ → ℕ → ℕ → Type 0
  Hit p s r = (f s ≡ true) × (p ≤ s) × (s ≤ r) × ((q : ℕ) → p ≤ q → q < s → f q ≡ false)

  hit-split : (p n r : ℕ) → p ≤ r → f r ≡ true → (suc p ≤ r → Hit (suc p) (first f (suc p) n) r) → (b : Bool) → f p ≡ b → Hit p (first f p (suc n)) r
  hit-split p n r g e more true i = rw (here p n i) (i, omega arith, g, λ q k k'. absurd (omega arith))
  hit-split p n r g e more false i =
      let apart : p ≡ r → ⊥ = λ z. let o : ◌≡◌ {A = ℕ} 0 1 = cc (ap f z) in omega arith in
      let rest = more (omega arith) in
      rw (later p n i) (rest.0, omega arith, rest.2, λ q k k'. elim (ℕ_discrete q p) [ yes z ↦ ap f z ∙ i | no z ↦ rest.3 q (omega arith) k' ])

  -- what a search finds where there is something to find
  pub hits : (p n r : ℕ) → p ≤ r → r < p + n → f r ≡ true → Hit p (first f p n) r
  hits p zero r g h e = absurd (omega arith)
  hits p (suc n) r g h e = hit-split p n r g e (λ l. hits (suc p) n r l (omega arith) e) (f p) refl
