-- The bytes of an entry look back 31 entries and no further: what stands before may be left out. Assumes nothing.
use Prim.Native.Nat.{ℕ, zero, suc, ◌+◌, ◌<◌, ◌≤◌}
use mathlib.Core.Path.{◌≡◌, refl, sym, ap, ap₂, ◌∙◌}
use mathlib.Core.Logic.{◌⊎◌, inl, inr}
use mathlib.Core.Bool.{Bool, true, false, not, ◌&&◌, ◌||◌}
use mathlib.Core.List.{List, [], ◌∷◌, ◌++◌, append-nil, append_assoc}
use native.Mathlib.Nat.{add-zero, add-suc}
use native.Mathlib.Omega.{arith}
use borrow.Author.Tests.{le-leb, lt-leb, leb-true, leb-false}
use lib.Dec.{leb}
use lib.ListN.{get_or, drop}
use lib.Seq.{get_or-drop}
use Rattle.lists.specs.Any.{any_below}
use Rattle.lists.specs.Tally.{num, tally}
use Rattle.lists.proofs.Bools.{Known, is_true, is_false, known}
use Rattle.rules.proofs.Facts.{below-same}
use Rattle.replicates.specs.Before.{oldest, apart_before, clear, pairwise, bytes_of, bytes_from}
use Rattle.replicates.proofs.Looks.{tally-none, any_none}
use Rattle.replicates.proofs.Same.{tally-same}

-- ---- counts and searches that begin at k

tally-shift : (p : ℕ → Bool) (k q : ℕ) → ((x : ℕ) → x < k → p x ≡ false) → tally p (k + q) ≡ tally (λ j. p (k + j)) q
unfolding tally
tally-shift p k zero h = ap (tally p) (add-zero k) ∙ tally-none p k h
tally-shift p k (suc q) h = ap (tally p) (add-suc k q) ∙ ap (λ (t : ℕ). num (p (k + q)) + t) (tally-shift p k q h)

any-shift : (p : ℕ → Bool) (k q : ℕ) → ((x : ℕ) → x < k → p x ≡ false) → any_below p (k + q) ≡ any_below (λ j. p (k + j)) q
unfolding any_below
any-shift p k zero h = ap (any_below p) (add-zero k) ∙ any_none p k h
any-shift p k (suc q) h = ap (any_below p) (add-suc k q) ∙ ap (λ (t : Bool). p (k + q) || t) (any-shift p k q h)

leb-shift : (k a b c : ℕ) → c ≡ k + a → leb c (k + b) ≡ leb a b
leb-shift k a b c e = pick (known (leb a b))
  where
    pick : Known (leb a b) → leb c (k + b) ≡ leb a b
    pick (is_true t) = le-leb c (k + b) (omega (arith, leb-true a b t)) ∙ sym t
    pick (is_false t) = lt-leb c (k + b) (omega (arith, leb-false a b t)) ∙ sym t

module _ (R : ℕ → ℕ → Bool) (xs : List ℕ) (k : ℕ) where
  moved : (j q : ℕ) → R (get_or xs (k + j) 0) (get_or xs (k + q) 0) ≡ R (get_or (drop k xs) j 0) (get_or (drop k xs) q 0)
  moved j q = ap₂ R (sym (get_or-drop k xs j 0)) (sym (get_or-drop k xs q 0))

  apart-shift : (q : ℕ) → 31 ≤ q → apart_before R xs (k + q) ≡ apart_before R (drop k xs) q
  unfolding apart_before
  apart-shift q l =
      tally-shift _ k q (λ x m. ap (λ (t : Bool). t && R (get_or xs x 0) (get_or xs (k + q) 0)) (lt-leb (oldest (k + q)) x (omega arith)))
      ∙ tally-same _ _ q (λ j m. ap₂ ◌&&◌ (leb-shift k (oldest q) j (oldest (k + q)) (omega arith)) (moved j q))

  clear-shift : (low q : ℕ) → clear R xs (k + low) (k + q) ≡ clear R (drop k xs) low q
  unfolding clear
  clear-shift low q =
      ap not
      (any-shift _ k q (λ x m. ap (λ (t : Bool). t && not (R (get_or xs x 0) (get_or xs (k + q) 0))) (lt-leb (k + low) x (omega arith)))
      ∙ below-same _ _ q (λ j m. ap₂ (λ (a b : Bool). a && not b) (leb-shift k low j (k + low) refl) (moved j q)))

  -- before the oldest there is no pair
  clear_none : (low q : ℕ) → q ≤ low → clear R xs low q ≡ true
  unfolding clear
  clear_none low q l = ap not (any_none _ q (λ j m. ap (λ (t : Bool). t && not (R (get_or xs j 0) (get_or xs q 0))) (lt-leb low j (omega arith))))

  pairwise-none : (low q : ℕ) → q ≤ low → pairwise R xs low q ≡ true
  unfolding pairwise
  pairwise-none low zero l = refl
  pairwise-none low (suc q) l = ap₂ ◌&&◌ (pairwise-none low q (omega arith)) (clear_none low q (omega arith))

  pairwise-shift : (low q : ℕ) → pairwise R xs (k + low) (k + q) ≡ pairwise R (drop k xs) low q
  unfolding pairwise
  pairwise-shift low zero = pairwise-none (k + low) (k + 0) (omega arith)
  pairwise-shift low (suc q) = ap (pairwise R xs (k + low)) (add-suc k q) ∙ ap₂ ◌&&◌ (pairwise-shift low q) (clear-shift low q)

  entry-shift : (q : ℕ) → 31 ≤ q → bytes_of R xs (k + q) ≡ bytes_of R (drop k xs) q
  unfolding bytes_of
  entry-shift q l =
      let e : oldest (k + q) ≡ k + oldest q = omega arith in
      ap₂ (λ (x y : ℕ). x ∷ y ∷ []) (apart-shift q l)
      (ap num
      (ap₂ (λ (low m : ℕ). pairwise R xs low m) e (sym (add-suc k q)) ∙ pairwise-shift (oldest q) (suc q)))

  far-shift : (c m : ℕ) → 31 ≤ c → bytes_from R xs (k + c) m ≡ bytes_from R (drop k xs) c m
  unfolding bytes_from
  far-shift c zero l = refl
  far-shift c (suc m) l =
      let e : k + c + m ≡ k + (c + m) = omega arith in
      ap₂ ◌++◌ (far-shift c m l) (ap (bytes_of R xs) e ∙ entry-shift (c + m) (omega arith))

pub bytes-shift : (R : ℕ → ℕ → Bool) (xs : List ℕ) (k c m : ℕ) → (k ≡ 0) ⊎ (31 ≤ c) → bytes_from R xs (k + c) m ≡ bytes_from R (drop k xs) c m
bytes-shift R xs k c m (inl e) = let z : 0 + c ≡ c = omega arith in rw (e, z)
bytes-shift R xs k c m (inr l) = far-shift R xs k c m l

-- the bytes of some entries and of those behind them
pub bytes-split : (R : ℕ → ℕ → Bool) (xs : List ℕ) (c a b : ℕ) → bytes_from R xs c (a + b) ≡ bytes_from R xs c a ++ bytes_from R xs (c + a) b
unfolding bytes_from
bytes-split R xs c a zero = ap (bytes_from R xs c) (add-zero a) ∙ sym (append-nil (bytes_from R xs c a))
bytes-split R xs c a (suc b) =
    let e : c + (a + b) ≡ c + a + b = omega arith in
    ap (bytes_from R xs c) (add-suc a b)
    ∙ ap₂ ◌++◌ (bytes-split R xs c a b) (ap (bytes_of R xs) e)
    ∙ append_assoc (bytes_from R xs c a) (bytes_from R xs (c + a) b) (bytes_of R xs (c + a + b))
