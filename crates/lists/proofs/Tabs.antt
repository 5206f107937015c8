-- What stands where in a list that `tab` makes. Assumes nothing.
use mathlib.Core.Path.{◌≡◌, refl, ◌∙◌, ap, ap₂, sym}
use mathlib.Core.List.{List, ◌∷◌}
use Prim.Native.Nat.{ℕ, zero, suc, ◌+◌, ◌≤◌, ◌<◌}
use native.Mathlib.Nat.{add-zero, zero-add, add-suc, suc-add, le_of_suc-le-suc, not-suc-le-zero}
use native.Mathlib.Omega.{arith}
use lib.ListN.{get_or, length, take}
use Rattle.lists.specs.Tab.{tab}

module _ {A : Type 0} (f : ℕ → A) where
  pub tab-from : (i n k : ℕ) (d : A) → k < n → get_or (tab f i n) k d ≡ f (i + k)
  unfolding tab
  tab-from i zero k d h = absurd (not-suc-le-zero h)
  tab-from i (suc n) zero d h = ap f (sym (add-zero i))
  tab-from i (suc n) (suc k) d h = tab-from (suc i) n k d (le_of_suc-le-suc h) ∙ ap f (suc-add i k ∙ sym (add-suc i k))

  pub tab-at : (n k : ℕ) (d : A) → k < n → get_or (tab f 0 n) k d ≡ f k
  tab-at n k d h = tab-from 0 n k d h ∙ ap f (zero-add k)

  pub tab-length : (i n : ℕ) → length (tab f i n) ≡ n
  unfolding tab
  tab-length i zero = refl
  tab-length i (suc n) = ap suc (tab-length (suc i) n)

  pub take-tab : (i n k : ℕ) → k ≤ n → take k (tab f i n) ≡ tab f i k
  unfolding tab
  take-tab i n zero h = refl
  take-tab i zero (suc k) h = absurd (not-suc-le-zero h)
  take-tab i (suc n) (suc k) h = ap (λ (l : List A). f i ∷ l) (take-tab (suc i) n k (le_of_suc-le-suc h))

-- two tables of what is the same number by number
pub tab-same : {A : Type 0} (f g : ℕ → A) (i n : ℕ) → ((k : ℕ) → i ≤ k → k < i + n → f k ≡ g k) → tab f i n ≡ tab g i n
unfolding tab
tab-same f g i zero h = refl
tab-same f g i (suc n) h = ap₂ ◌∷◌ (h i (omega arith) (omega arith)) (tab-same f g (suc i) n (λ k l m. h k (omega arith) (omega arith)))
