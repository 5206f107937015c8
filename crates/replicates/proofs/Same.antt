-- The bytes of an entry depend on the entries at hand alone, and on which two of these are apart. Assumes nothing.
use Prim.Native.Nat.{ℕ, zero, suc, ◌+◌, ◌<◌, ◌≤◌}
use mathlib.Core.Path.{◌≡◌, refl, ap, ap₂}
use mathlib.Core.Bool.{Bool, not, ◌&&◌}
use mathlib.Core.List.{List, [], ◌∷◌, ◌++◌}
use native.Mathlib.Omega.{arith}
use lib.Dec.{leb}
use lib.ListN.{get_or}
use Rattle.lists.specs.Tally.{num, tally}
use Rattle.rules.proofs.Facts.{below-same}
use Rattle.replicates.specs.Before.{oldest, apart_before, clear, pairwise, bytes_of, bytes_from}

pub tally-same : (p q : ℕ → Bool) (m : ℕ) → ((x : ℕ) → x < m → p x ≡ q x) → tally p m ≡ tally q m
unfolding tally
tally-same p q zero h = refl
tally-same p q (suc m) h = ap₂ (λ (a : Bool) (b : ℕ). num a + b) (h m (omega arith)) (tally-same p q m (λ x l. h x (omega arith)))

module _ (R S : ℕ → ℕ → Bool) (xs ys : List ℕ) (b : ℕ) (same : (j q : ℕ) → j < b → q < b → R (get_or xs j 0) (get_or xs q 0) ≡ S (get_or ys j 0) (get_or ys q 0)) where
  apart-same : (q : ℕ) → q < b → apart_before R xs q ≡ apart_before S ys q
  unfolding apart_before
  apart-same q l = tally-same _ _ q (λ j k. ap (λ (t : Bool). leb (oldest q) j && t) (same j q (omega arith) l))

  clear-same : (low q : ℕ) → q < b → clear R xs low q ≡ clear S ys low q
  unfolding clear
  clear-same low q l = ap not (below-same _ _ q (λ j k. ap (λ (t : Bool). leb low j && not t) (same j q (omega arith) l)))

  pairwise-same : (low q : ℕ) → q ≤ b → pairwise R xs low q ≡ pairwise S ys low q
  unfolding pairwise
  pairwise-same low zero l = refl
  pairwise-same low (suc q) l = ap₂ ◌&&◌ (pairwise-same low q (omega arith)) (clear-same low q (omega arith))

  pub bytes_same : (c m : ℕ) → c + m ≤ b → bytes_from R xs c m ≡ bytes_from S ys c m
  unfolding bytes_from bytes_of
  bytes_same c zero l = refl
  bytes_same c (suc m) l =
      ap₂ ◌++◌ (bytes_same c m (omega arith))
      (ap₂ (λ (x y : ℕ). x ∷ y ∷ []) (apart-same (c + m) (omega arith)) (ap num (pairwise-same (oldest (c + m)) (suc (c + m)) (omega arith))))
