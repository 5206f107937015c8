-- Counting what passes a test. Assumes nothing.
use mathlib.Core.Path.{◌≡◌, refl, sym, ap, ◌∙◌}
use mathlib.Core.Bool.{Bool, true, false, not}
use Prim.Native.Nat.{ℕ, zero, suc, ◌+◌, ◌<◌, ◌≤◌}
use native.Mathlib.Decide.{ℕ_discrete}
use native.Mathlib.Omega.{arith}
use Rattle.lists.proofs.Bools.{Known, is_true, is_false, known}
use Rattle.lists.specs.Tally.{num, tally}

num-le : (a : Bool) → num a ≤ 1
num-le true = omega arith
num-le false = omega arith

num-mono : (a b : Bool) → (a ≡ true → b ≡ true) → num a ≤ num b
num-mono true b h = rw (h refl) (omega arith)
num-mono false b h = omega arith

num-less : (a b : Bool) → a ≡ false → b ≡ true → num a < num b
num-less a b e f = rw (e, f) (omega arith)

pub tally-le : (p : ℕ → Bool) (m : ℕ) → tally p m ≤ m
unfolding tally
tally-le p zero = omega arith
tally-le p (suc m) = omega (arith, num-le (p m), tally-le p m)

pub tally-mono : (p q : ℕ → Bool) (m : ℕ) → ((x : ℕ) → x < m → p x ≡ true → q x ≡ true) → tally p m ≤ tally q m
unfolding tally
tally-mono p q zero h = omega arith
tally-mono p q (suc m) h = omega (arith, num-mono (p m) (q m) (h m (omega arith)), tally-mono p q m (λ x l. h x (omega arith)))

pub tally-more : (p q : ℕ → Bool) (m y : ℕ) → ((x : ℕ) → x < m → p x ≡ true → q x ≡ true) → y < m → p y ≡ false → q y ≡ true → tally p m < tally q m
unfolding tally
tally-more p q zero y h l e f = absurd (omega arith)
tally-more p q (suc m) y h l e f = go (ℕ_discrete y m) (λ (k : y < m). tally-more p q m y (λ x b. h x (omega arith)) k e f)
  where
    go : Dec (y ≡ m) → (y < m → tally p m < tally q m) → num (p m) + tally p m < num (q m) + tally q m
    go (yes i) r = omega (arith, num-less (p m) (q m) (ap p (sym i) ∙ e) (ap q (sym i) ∙ f), tally-mono p q m (λ x b. h x (omega arith)))
    go (no i) r = omega (arith, num-mono (p m) (q m) (h m (omega arith)), r (omega arith))

pub tally-some : (p : ℕ → Bool) (m y : ℕ) → y < m → p y ≡ true → 0 < tally p m
unfolding tally
tally-some p zero y l e = absurd (omega arith)
tally-some p (suc m) y l e = go (ℕ_discrete y m) (λ (k : y < m). tally-some p m y k e)
  where
    go : Dec (y ≡ m) → (y < m → 0 < tally p m) → 0 < num (p m) + tally p m
    go (yes i) r = rw (ap p (sym i) ∙ e) (omega arith)
    go (no i) r = omega (arith, r (omega arith))

pub tally-all : (p : ℕ → Bool) (m : ℕ) → ((x : ℕ) → x < m → p x ≡ true) → tally p m ≡ m
unfolding tally
tally-all p zero h = refl
tally-all p (suc m) h = rw (h m (omega arith)) (omega (arith, tally-all p m (λ x l. h x (omega arith))))

pub tally-rise : (p : ℕ → Bool) (a b : ℕ) → a ≤ b → tally p a ≤ tally p b
unfolding tally
tally-rise p a zero l = let z : a ≡ 0 = omega arith in rw z (omega arith)
tally-rise p a (suc b) l = go (ℕ_discrete a (suc b)) (λ (j : a ≤ b). tally-rise p a b j)
  where
    go : Dec (a ≡ suc b) → (a ≤ b → tally p a ≤ tally p b) → tally p a ≤ num (p b) + tally p b
    go (yes i) r = rw i (omega arith)
    go (no i) r = omega (arith, r (omega arith))

-- up to a higher bound: more, where something between passes
pub tally-upto : (p : ℕ → Bool) (a x b : ℕ) → a ≤ x → x < b → p x ≡ true → tally p a < tally p b
unfolding tally
tally-upto p a x zero l k e = absurd (omega arith)
tally-upto p a x (suc b) l k e = go (ℕ_discrete x b) (λ (j : x < b). tally-upto p a x b l j e)
  where
    go : Dec (x ≡ b) → (x < b → tally p a < tally p b) → tally p a < num (p b) + tally p b
    go (yes i) r = rw (ap p (sym i) ∙ e) (omega (arith, tally-rise p a b (omega arith)))
    go (no i) r = omega (arith, r (omega arith))

-- the k-th that passes
pub tally-find : (p : ℕ → Bool) (n k : ℕ) → k < tally p n → (x : ℕ) × (x < n) × (p x ≡ true) × (tally p x ≡ k)
unfolding tally
tally-find p zero k l = absurd (omega arith)
tally-find p (suc n) k l = go (known (p n)) (ℕ_discrete k (tally p n)) (λ (j : k < tally p n). tally-find p n k j)
  where
    more : (x : ℕ) × (x < n) × (p x ≡ true) × (tally p x ≡ k) → (x : ℕ) × (x < suc n) × (p x ≡ true) × (tally p x ≡ k)
    more (x, a, b, c) = (x, omega arith, b, c)

    go : Known (p n) → Dec (k ≡ tally p n) → (k < tally p n → (x : ℕ) × (x < n) × (p x ≡ true) × (tally p x ≡ k)) → (x : ℕ) × (x < suc n) × (p x ≡ true) × (tally p x ≡ k)
    go (is_true e) (yes i) r = (n, omega arith, e, sym i)
    go (is_true e) (no i) r = let z = rw e at l in more (r (omega arith))
    go (is_false e) d r = let z = rw e at l in more (r (omega arith))

-- what passes and what does not are all
pub tally-rest : (p q : ℕ → Bool) (m : ℕ) → ((x : ℕ) → x < m → q x ≡ not (p x)) → tally q m + tally p m ≡ m
unfolding tally
tally-rest p q zero h = refl
tally-rest p q (suc m) h = go (known (p m)) (tally-rest p q m (λ x l. h x (omega arith)))
  where
    go : Known (p m) → tally q m + tally p m ≡ m → num (q m) + tally q m + (num (p m) + tally p m) ≡ suc m
    go (is_true e) r = rw (h m (omega arith), e) (omega arith)
    go (is_false e) r = rw (h m (omega arith), e) (omega arith)
