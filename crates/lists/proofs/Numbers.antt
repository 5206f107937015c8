-- What is in `range` and `keep`, and what `find` finds. Assumes nothing.
use mathlib.Core.Path.{◌≡◌, refl, sym, ap, ◌∙◌}
use mathlib.Core.Logic.{◌⊎◌, inl, inr}
use mathlib.Core.Bool.{Bool, true, false, not}
use mathlib.Core.List.Memᴰ
use mathlib.Core.List.Memᴰ.{head as here}
use mathlib.Core.List.Memᴰ.{tail as there}
use mathlib.Core.List.{List, [], ◌∷◌, Memᴰ}
use Prim.Native.Nat.{ℕ, zero, suc, ◌+◌, ◌≤◌, ◌<◌}
use native.Mathlib.Omega.{arith}
use native.Mathlib.Nat.{eq-or-lt_of_le}
use Rattle.lists.specs.Tab.{tab}
use lib.Dec.{ltb}
use borrow.Author.Tests.{ltb-true, ltb-false, lt-ltb, le-ltb}
use lib.ListN.{length}
use Rattle.lists.proofs.Tabs.{tab-length}
use Rattle.lists.specs.Numbers.{range, keep, find}

infix 40 ◌∈◌
abbrev pub ◌∈◌ : {A : Type 0} → A → List A → Type 0
◌∈◌ a l = Memᴰ a l

pub which : (b : Bool) → (b ≡ true) ⊎ (b ≡ false)
which true = inl refl
which false = inr refl

-- ## keep

module _ (f : ℕ → Bool) (x : ℕ) (xs : List ℕ) where
  pub keep-yes : f x ≡ true → keep f (x ∷ xs) ≡ x ∷ keep f xs
  unfolding keep
  keep-yes e = rw (e, keep)

  pub keep-no : f x ≡ false → keep f (x ∷ xs) ≡ keep f xs
  unfolding keep
  keep-no e = rw (e, keep)

pub keep-mem : (f : ℕ → Bool) (xs : List ℕ) {x : ℕ} → x ∈ keep f xs → (x ∈ xs) × (f x ≡ true)
unfolding keep
keep-mem f [] m = absurd (Memᴰ.not-nil m)
keep-mem f (y ∷ xs) {x} m = go (which (f y)) (λ (h : x ∈ keep f xs). keep-mem f xs h)
  where
    split : f y ≡ true → (x ≡ y) ⊎ (x ∈ keep f xs) → ((x ∈ keep f xs) → (x ∈ xs) × (f x ≡ true)) → (x ∈ y ∷ xs) × (f x ≡ true)
    split e (inl q) r = (here q, ap f q ∙ e)
    split e (inr h) r = (there (r h).0, (r h).1)

    go : (f y ≡ true) ⊎ (f y ≡ false) → ((x ∈ keep f xs) → (x ∈ xs) × (f x ≡ true)) → (x ∈ y ∷ xs) × (f x ≡ true)
    go (inl e) r = split e (Memᴰ.cases_cons (rw (keep-yes f y xs e) at m)) r
    go (inr e) r = let h : x ∈ keep f xs = rw (keep-no f y xs e) at m in (there (r h).0, (r h).1)

pub mem-keep : (f : ℕ → Bool) {x : ℕ} (xs : List ℕ) → x ∈ xs → f x ≡ true → x ∈ keep f xs
mem-keep f [] m e = absurd (Memᴰ.not-nil m)
mem-keep f {x} (y ∷ xs) m e = go (which (f y)) (Memᴰ.cases_cons m) (λ (h : x ∈ xs). mem-keep f xs h e)
  where
    go : (f y ≡ true) ⊎ (f y ≡ false) → (x ≡ y) ⊎ (x ∈ xs) → (x ∈ xs → x ∈ keep f xs) → x ∈ keep f (y ∷ xs)
    go (inl t) (inl q) r = rw (keep-yes f y xs t) (here q)
    go (inl t) (inr h) r = rw (keep-yes f y xs t) (there (r h))
    go (inr t) (inl q) r = let z : true ≡ false = cc (ap f q) in absurd (mathlib.Core.Bool.true≢false z)
    go (inr t) (inr h) r = rw (keep-no f y xs t) (r h)

-- a list is cut in two by a test
pub keep-lengths : (f : ℕ → Bool) (xs : List ℕ) → length (keep f xs) + length (keep (λ x. not (f x)) xs) ≡ length xs
unfolding keep
keep-lengths f [] = refl
keep-lengths f (x ∷ xs) = go (which (f x)) (keep-lengths f xs)
  where
    go : (f x ≡ true) ⊎ (f x ≡ false) → length (keep f xs) + length (keep (λ x. not (f x)) xs) ≡ length xs
        → length (keep f (x ∷ xs)) + length (keep (λ x. not (f x)) (x ∷ xs)) ≡ length (x ∷ xs)
    go (inl e) r = rw (keep-yes f x xs e, keep-no (λ x. not (f x)) x xs (ap not e)) (omega arith)
    go (inr e) r = rw (keep-no f x xs e, keep-yes (λ x. not (f x)) x xs (ap not e)) (omega arith)

-- ## range

pub range-mem : (k m : ℕ) {x : ℕ} → x ∈ range k m → (k ≤ x) × (x < k + m)
unfolding range tab
range-mem k zero h = absurd (Memᴰ.not-nil h)
range-mem k (suc m) {x} h = go (Memᴰ.cases_cons h) (λ (t : x ∈ range (suc k) m). range-mem (suc k) m t)
  where
    go : (x ≡ k) ⊎ (x ∈ range (suc k) m) → (x ∈ range (suc k) m → (suc k ≤ x) × (x < suc k + m)) → (k ≤ x) × (x < k + suc m)
    go (inl e) r = omega arith
    go (inr t) r = let g = r t in omega arith

pub mem-range : (k m x : ℕ) → k ≤ x → x < k + m → x ∈ range k m
unfolding range tab
mem-range k zero x a b = absurd (omega arith)
mem-range k (suc m) x a b = go (eq-or-lt_of_le a) (λ (h : suc k ≤ x). mem-range (suc k) m x h (omega arith))
  where
    go : (k ≡ x) ⊎ (k < x) → (suc k ≤ x → x ∈ range (suc k) m) → x ∈ k ∷ range (suc k) m
    go (inl e) r = here (sym e)
    go (inr h) r = there (r h)

pub range_length : (k m : ℕ) → length (range k m) ≡ m
unfolding range
range_length k m = tab-length (λ i. i) k m

-- ## find

pub find-mem : (f : ℕ → Bool) (xs : List ℕ) {x : ℕ} → x ∈ xs → f x ≡ true → (find f xs ∈ xs) × (f (find f xs) ≡ true)
unfolding find
find-mem f [] m e = absurd (Memᴰ.not-nil m)
find-mem f (y ∷ xs) {x} m e = go (which (f y)) (Memᴰ.cases_cons m) (λ (h : x ∈ xs). find-mem f xs h e)
  where
    go : (f y ≡ true) ⊎ (f y ≡ false) → (x ≡ y) ⊎ (x ∈ xs) → (x ∈ xs → (find f xs ∈ xs) × (f (find f xs) ≡ true))
        → (find f (y ∷ xs) ∈ y ∷ xs) × (f (find f (y ∷ xs)) ≡ true)
    go (inl t) h r = rw (t, find) (here refl, t)
    go (inr t) (inl q) r = let z : true ≡ false = cc (ap f q) in absurd (mathlib.Core.Bool.true≢false z)
    go (inr t) (inr h) r = rw (t, find) (there (r h).0, (r h).1)

-- ## A bound that is one more changes nothing at the other numbers
pub same_test : (p q : ℕ) → (q ≡ p → ⊥) → ltb q (p + 1) ≡ ltb q p
same_test p q x = go (which (ltb q p))
  where
    go : (ltb q p ≡ true) ⊎ (ltb q p ≡ false) → ltb q (p + 1) ≡ ltb q p
    go (inl t) = lt-ltb q (p + 1) (omega (arith, ltb-true q p t)) ∙ sym t
    go (inr t) = le-ltb q (p + 1) (omega (arith, ltb-false q p t)) ∙ sym t
