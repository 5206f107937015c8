-- The search of a row for its next set bit, word by word. Assumes nothing.
use mathlib.Core.Path.{◌≡◌, sym, ap, subst, ◌∙◌}
use mathlib.Core.List.{List}
use mathlib.Core.Bool.{false, true≢false}
use Prim.Native.Nat.{ℕ, ◌+◌, ◌-◌, ◌*◌, ◌/◌, ◌%◌, ◌^◌, ◌<◌, ◌≤◌}
use native.Mathlib.Decide.{dec_lt}
use native.Mathlib.Nat.{lt_of_le_of_lt, div-one}
use native.Mathlib.Omega.{arith}
use lib.Count.{count_trailing_zeros}
use lib.ListN.{get_or}
use lib.Pow.{shr_le}
use Rattle.lists.specs.First.{first}
use Rattle.lists.proofs.Firsts.{first-is, passed_over}
use Rattle.matrices.specs.Matrix.{bit, bit_of}
use Rattle.matrices.proofs.Laws.{bit-zero, bit_shifted, bit-beyond, Lowest, lowest}

module _ (m : List ℕ) (r p x : ℕ) (below : p < 2048) (is : x ≡ get_or m (r * 32 + p / 64) 0 / 2 ^ (p % 64)) where
  -- the bit k places on in the same word
  on : (k : ℕ) → p % 64 + k < 64 → bit_of m r (p + k) ≡ bit x k
  unfolding bit_of
  on k h =
      let e : (p + k) / 64 ≡ p / 64 = omega arith in
      let e' : (p + k) % 64 ≡ p % 64 + k = omega arith in
      rw (e, e', is) (sym (bit_shifted (get_or m (r * 32 + p / 64) 0) (p % 64) k))

  -- the rest of the word is 0: the search goes on at the next word
  pub rest-empty : x ≡ 0 → first (bit_of m r) p (2048 - p) ≡ first (bit_of m r) ((p / 64 + 1) * 64) (2048 - (p / 64 + 1) * 64)
  rest-empty z =
      let e : p + (64 - p % 64) ≡ (p / 64 + 1) * 64 = omega arith in
      passed_over (bit_of m r) p (64 - p % 64) 2048 (omega arith) (λ q k l. clear q k (omega arith)) ∙ ap (λ (v : ℕ). first (bit_of m r) v (2048 - v)) e
    where
      clear : (q : ℕ) → p ≤ q → q < p + (64 - p % 64) → bit_of m r q ≡ false
      clear q k l =
          let e : p + (q - p) ≡ q = omega arith in
          ap (bit_of m r) (sym e) ∙ on (q - p) (omega arith) ∙ ap (λ (v : ℕ). bit v (q - p)) z ∙ bit-zero (q - p)

  -- the rest of the word is not 0: its lowest bit is the one
  pub rest-found : get_or m (r * 32 + p / 64) 0 < 2 ^ 64 → (x ≡ 0 → ⊥) → p + count_trailing_zeros 64 x ≡ first (bit_of m r) p (2048 - p)
  rest-found fits ne =
      sym
      (first-is (bit_of m r) p (2048 - p) (p + t) (omega arith) (omega (arith, room)) clear (on t room ∙ low.hit))
    where
      w : ℕ
      w = get_or m (r * 32 + p / 64) 0

      t : ℕ
      t = count_trailing_zeros 64 x

      low : Lowest 64 x t
      low = lowest 64 x (lt_of_le_of_lt (subst (λ (v : ℕ). v ≤ w) (sym is) (shr_le w (p % 64))) fits) ne

      room : p % 64 + t < 64
      room = elim (dec_lt (p % 64 + t) 64) [ yes y ↦ y | no y ↦ absurd (true≢false (sym low.hit ∙ ap (λ (v : ℕ). bit v t) is ∙ bit_shifted w (p % 64) t ∙ bit-beyond 64 w (p % 64 + t) fits (omega arith))) ]

      clear : (q : ℕ) → p ≤ q → q < p + t → bit_of m r q ≡ false
      clear q k l =
          let e : p + (q - p) ≡ q = omega arith in
          ap (bit_of m r) (sym e) ∙ on (q - p) (omega (arith, room)) ∙ low.before (q - p) (omega arith)

-- the same of a whole word
whole : (m : List ℕ) (r i : ℕ) → get_or m (r * 32 + i) 0 ≡ get_or m (r * 32 + i * 64 / 64) 0 / 2 ^ (i * 64 % 64)
whole m r i =
    let e : i * 64 / 64 ≡ i = omega arith in
    let e' : i * 64 % 64 ≡ 0 = omega arith in
    rw (e, e') (sym (div-one _))

pub word-empty :
    (m : List ℕ) (r i : ℕ) → i < 32 → get_or m (r * 32 + i) 0 ≡ 0
    → first (bit_of m r) (i * 64) (2048 - i * 64) ≡ first (bit_of m r) ((i + 1) * 64) (2048 - (i + 1) * 64)
word-empty m r i h z =
    let e : i * 64 / 64 ≡ i = omega arith in
    rest-empty m r (i * 64) _ (omega arith) (whole m r i) z ∙ ap (λ (v : ℕ). first (bit_of m r) ((v + 1) * 64) (2048 - (v + 1) * 64)) e

pub word-found :
    (m : List ℕ) (r i : ℕ) → i < 32 → get_or m (r * 32 + i) 0 < 2 ^ 64 → (get_or m (r * 32 + i) 0 ≡ 0 → ⊥)
    → i * 64 + count_trailing_zeros 64 (get_or m (r * 32 + i) 0) ≡ first (bit_of m r) (i * 64) (2048 - i * 64)
word-found m r i h fits ne =
    let e : i * 64 / 64 ≡ i = omega arith in
    rest-found m r (i * 64) _ (omega arith) (whole m r i) (rw e fits) ne
