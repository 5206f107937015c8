-- Sums over lists of numbers, and how many numbers a test keeps. Assumes nothing.
use mathlib.Core.Path.{◌≡◌, refl, sym, ap}
use mathlib.Core.Logic.{◌⊎◌, inl, inr}
use mathlib.Core.Bool.{Bool, true, false, ◌||◌, true≢false}
use mathlib.Core.List.Memᴰ.{head as here}
use mathlib.Core.List.Memᴰ.{tail as there}
use mathlib.Core.List.{List, [], ◌∷◌}
use Prim.Native.Nat.{ℕ, zero, suc, ◌+◌, ◌*◌, ◌≤◌, ◌<◌}
use native.Mathlib.Decide.{dec_lt}
use native.Mathlib.Omega.{arith}
use native.Mathlib.Nat.{eq-or-lt_of_le}
use lib.Dec.{eqb}
use lib.ListN.{length}
use borrow.Author.Tests.{eq-eqb, ne_eqb}
use Rattle.lists.specs.Tab.{tab}
use Rattle.lists.specs.Tally.{num}
use Rattle.lists.specs.Numbers.{range, keep, sum}
use Rattle.lists.proofs.Numbers.{◌∈◌, which, keep-yes, keep-no, keep-lengths, range-mem}

pub sum-eq : (f g : ℕ → ℕ) (xs : List ℕ) → ((x : ℕ) → x ∈ xs → f x ≡ g x) → sum f xs ≡ sum g xs
unfolding sum
sum-eq f g [] h = refl
sum-eq f g (x ∷ xs) h = omega (arith, h x (here refl), sum-eq f g xs (λ y m. h y (there m)))

pub sum-add : (f g : ℕ → ℕ) (xs : List ℕ) → sum (λ x. f x + g x) xs ≡ sum f xs + sum g xs
unfolding sum
sum-add f g [] = refl
sum-add f g (x ∷ xs) = omega (arith, sum-add f g xs)

pub sum-none : (f : ℕ → ℕ) (xs : List ℕ) → ((x : ℕ) → x ∈ xs → f x ≡ 0) → sum f xs ≡ 0
unfolding sum
sum-none f [] h = refl
sum-none f (x ∷ xs) h = omega (arith, h x (here refl), sum-none f xs (λ y m. h y (there m)))

-- the sum of what is g q at q alone
pub sum-at : (g : ℕ → ℕ) (q k m : ℕ) → k ≤ q → q < k + m → sum (λ p. num (eqb p q) * g p) (range k m) ≡ g q
unfolding sum range tab
sum-at g q k zero a b = absurd (omega arith)
sum-at g q k (suc m) a b = go (eq-or-lt_of_le a) (λ (h : k < q). sum-at g q (suc k) m h (omega arith))
  where
    go : (k ≡ q) ⊎ (k < q) → (k < q → sum (λ p. num (eqb p q) * g p) (range (suc k) m) ≡ g q)
        → num (eqb k q) * g k + sum (λ p. num (eqb p q) * g p) (range (suc k) m) ≡ g q
    go (inl e) r = rw (eq-eqb k q e) (omega (
      arith,
      ap g e,
      sum-none (λ p. num (eqb p q) * g p) (range (suc k) m)
          (λ x h. let b = range-mem (suc k) m h in rw (ne_eqb x q (λ w. omega arith)) (omega arith)),
    ))
    go (inr h) r = rw (ne_eqb k q (λ w. omega arith)) (omega (arith, r h))

pub sum_ones : (k m : ℕ) → sum (λ p. 1) (range k m) ≡ m
unfolding sum range tab
sum_ones k zero = refl
sum_ones k (suc m) = omega (arith, sum_ones (suc k) m)

pub sum-le : (f g : ℕ → ℕ) (xs : List ℕ) → ((x : ℕ) → f x ≤ g x) → sum f xs ≤ sum g xs
unfolding sum
sum-le f g [] h = omega arith
sum-le f g (x ∷ xs) h = omega (arith, h x, sum-le f g xs h)

pub keep-le : (f : ℕ → Bool) (xs : List ℕ) → length (keep f xs) ≤ length xs
keep-le f xs = omega (arith, keep-lengths f xs)

-- those that pass one of two tests
pub keep-or : (f g h : ℕ → Bool) (xs : List ℕ) → ((x : ℕ) → f x ≡ true → (g x || h x) ≡ true) → length (keep f xs) ≤ length (keep g xs) + length (keep h xs)
unfolding keep
keep-or f g h [] e = omega arith
keep-or f g h (x ∷ xs) e = go (which (f x)) (which (g x)) (which (h x)) (keep-or f g h xs e)
  where
    Goal : Type 0
    Goal = length (keep f (x ∷ xs)) ≤ length (keep g (x ∷ xs)) + length (keep h (x ∷ xs))

    go : (f x ≡ true) ⊎ (f x ≡ false) → (g x ≡ true) ⊎ (g x ≡ false) → (h x ≡ true) ⊎ (h x ≡ false)
        → length (keep f xs) ≤ length (keep g xs) + length (keep h xs) → Goal
    go (inl a) (inl b) (inl c) r = rw (keep-yes f x xs a, keep-yes g x xs b, keep-yes h x xs c) (omega arith)
    go (inl a) (inl b) (inr c) r = rw (keep-yes f x xs a, keep-yes g x xs b, keep-no h x xs c) (omega arith)
    go (inl a) (inr b) (inl c) r = rw (keep-yes f x xs a, keep-no g x xs b, keep-yes h x xs c) (omega arith)
    go (inl a) (inr b) (inr c) r = absurd (true≢false (sym (rw (b, c) at (e x a))))
    go (inr a) (inl b) (inl c) r = rw (keep-no f x xs a, keep-yes g x xs b, keep-yes h x xs c) (omega arith)
    go (inr a) (inl b) (inr c) r = rw (keep-no f x xs a, keep-yes g x xs b, keep-no h x xs c) (omega arith)
    go (inr a) (inr b) (inl c) r = rw (keep-no f x xs a, keep-no g x xs b, keep-yes h x xs c) (omega arith)
    go (inr a) (inr b) (inr c) r = rw (keep-no f x xs a, keep-no g x xs b, keep-no h x xs c) r

pub none_kept : (f : ℕ → Bool) (xs : List ℕ) → ((x : ℕ) → f x ≡ false) → length (keep f xs) ≡ 0
unfolding keep
none_kept f [] h = refl
none_kept f (x ∷ xs) h = rw (keep-no f x xs (h x)) (none_kept f xs h)

pub keep-sum : (f : ℕ → Bool) (xs : List ℕ) → length (keep f xs) ≡ sum (λ x. num (f x)) xs
unfolding keep sum
keep-sum f [] = refl
keep-sum f (x ∷ xs) = go (which (f x)) (keep-sum f xs)
  where
    go : (f x ≡ true) ⊎ (f x ≡ false) → length (keep f xs) ≡ sum (λ x. num (f x)) xs → length (keep f (x ∷ xs)) ≡ num (f x) + sum (λ x. num (f x)) xs
    go (inl e) r = rw (keep-yes f x xs e, e) (omega arith)
    go (inr e) r = rw (keep-no f x xs e, e) (omega arith)

-- a number is in a run at most once
pub one_at_most : (q n : ℕ) → sum (λ p. num (eqb p q)) (range 0 n) ≤ 1
one_at_most q n = go (dec_lt q n)
  where
    go : Dec (q < n) → sum (λ p. num (eqb p q)) (range 0 n) ≤ 1
    go (yes l) = omega (arith, sum-at (λ p. 1) q 0 n (omega arith) (omega arith), sum-le (λ p. num (eqb p q)) (λ p. num (eqb p q) * 1) (range 0 n) (λ p. omega arith))
    go (no l) = omega (arith, sum-none (λ p. num (eqb p q)) (range 0 n) (λ x m. let b = range-mem 0 n m in ap num (ne_eqb x q (λ w. omega arith))))
