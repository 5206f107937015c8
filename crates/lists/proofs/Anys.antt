-- What a search of a list, or of the numbers below a bound, says. Assumes nothing.
use Prim.Native.Nat.{ℕ, zero, suc, ◌+◌, ◌-◌, ◌<◌, ◌≤◌}
use mathlib.Core.Path.{◌≡◌, refl, sym, ap, ◌∙◌}
use mathlib.Core.Logic.{◌⊎◌, inl, inr}
use mathlib.Core.Bool.{Bool, true, false, ◌||◌, false≢true}
use mathlib.Core.List.{List, [], ◌∷◌, Memᴰ}
use native.Mathlib.Nat.{add-suc, add-zero}
use native.Mathlib.Omega.{arith}
use borrow.Author.Tests.{eqb-true, eqb-false}
use lib.Dec.{eqb}
use Rattle.lists.specs.Any.{any, any_below}
use Rattle.lists.proofs.Bools.{or-either, left_or, right_or, Known, is_true, is_false, known}

pub any-find : {A : Type 0} (p : A → Bool) (xs : List A) → any p xs ≡ true → (x : A) × Memᴰ x xs × (p x ≡ true)
unfolding any
any-find p [] e = absurd (false≢true e)
any-find {A} p (y ∷ ys) e = pick (λ f. any-find p ys f) (or-either (p y) (any p ys) e)
  where
    pick : (any p ys ≡ true → (x : A) × Memᴰ x ys × (p x ≡ true)) → (p y ≡ true) ⊎ (any p ys ≡ true) → (x : A) × Memᴰ x (y ∷ ys) × (p x ≡ true)
    pick rest (inl h) = (y, Memᴰ.head refl, h)
    pick rest (inr h) = let r = rest h in (r.0, Memᴰ.tail r.1, r.2)

pub any-hit : {A : Type 0} (p : A → Bool) {x : A} {xs : List A} → Memᴰ x xs → p x ≡ true → any p xs ≡ true
unfolding any
any-hit p (Memᴰ.head {x = y} {xs = ys} q) h = left_or (any p ys) (ap p (sym q) ∙ h)
any-hit p (Memᴰ.tail {x = y} m) h = right_or (p y) (any-hit p m h)

pub below-find : (p : ℕ → Bool) (n : ℕ) → any_below p n ≡ true → (x : ℕ) × (x < n) × (p x ≡ true)
unfolding any_below
below-find p zero e = absurd (false≢true e)
below-find p (suc n) e = pick (λ f. below-find p n f) (or-either (p n) (any_below p n) e)
  where
    pick : (any_below p n ≡ true → (x : ℕ) × (x < n) × (p x ≡ true)) → (p n ≡ true) ⊎ (any_below p n ≡ true) → (x : ℕ) × (x < suc n) × (p x ≡ true)
    pick rest (inl h) = (n, omega arith, h)
    pick rest (inr h) = let r = rest h in (r.0, omega arith, r.2)

pub below-hit : (p : ℕ → Bool) (n x : ℕ) → x < n → p x ≡ true → any_below p n ≡ true
unfolding any_below
below-hit p zero x l h = absurd (omega arith)
below-hit p (suc n) x l h = pick (known (eqb x n)) (λ k. below-hit p n x k h)
  where
    pick : Known (eqb x n) → (x < n → any_below p n ≡ true) → any_below p (suc n) ≡ true
    pick (is_true q) rest = left_or (any_below p n) (ap p (sym (eqb-true x n q)) ∙ h)
    pick (is_false q) rest = right_or (p n) (rest (omega (arith, eqb-false x n q)))

-- numbers that fail the test add nothing
pub below-skip : (p : ℕ → Bool) (k d : ℕ) → ((q : ℕ) → k ≤ q → q < k + d → p q ≡ false) → any_below p (k + d) ≡ any_below p k
unfolding any_below
below-skip p k zero h = ap (any_below p) (add-zero k)
below-skip p k (suc d) h = ap (any_below p) (add-suc k d) ∙ ap (λ (t : Bool). t || any_below p (k + d)) (h (k + d) (omega arith) (omega arith)) ∙ below-skip p k d (λ q l l'. h q l (omega arith))

pub below-pass : (p : ℕ → Bool) (k x : ℕ) → k ≤ x → ((q : ℕ) → k ≤ q → q < x → p q ≡ false) → any_below p x ≡ any_below p k
below-pass p k x l h = let e : k + (x - k) ≡ x = omega arith in ap (any_below p) (sym e) ∙ below-skip p k (x - k) (λ q g g'. h q g (omega arith))
