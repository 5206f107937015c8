-- Rows of words: what a loop over the 32 words of a row has done after i turns, and what that says of bits. Assumes nothing.
use mathlib.Core.Path.{◌≡◌, sym, ap, subst, ◌∙◌}
use mathlib.Core.List.{List}
use mathlib.Core.Bool.{Bool, true, false, ◌||◌, ◌&&◌, or-true, or-false, true≢false}
use Prim.Native.Nat.{ℕ, ◌+◌, ◌*◌, ◌/◌, ◌%◌, ◌^◌, ◌<◌, ◌≤◌}
use native.Mathlib.Nat.{lt_of_le_of_lt}
use native.Mathlib.Decide.{dec_lt, ℕ_discrete}
use native.Mathlib.Omega.{arith}
use lib.Bits.{bit_and, bit_or, and_le_l}
use lib.Count.{count_trailing_zeros}
use lib.ListN.{length, get_or, set}
use lib.Seq.{get_or-set_same, get_or-set_other}
use Rattle.lists.proofs.Bools.{not-true}
use Rattle.lists.proofs.Anys.{below-find, below-hit}
use Rattle.matrices.specs.Matrix.{bit, bit_of, common, Inserted, United}
use Rattle.matrices.proofs.Laws.{bit-or, bit-and, bit-one-same, bit-one-other, lowest, bit-zero}

-- m' is m with the first i words from b on of n put into those from a on
pub record Joined (m m' n : List ℕ) (a b i : ℕ) : Type 0 where
  pub inside : (k : ℕ) → k < i → get_or m' (a + k) 0 ≡ bit_or (get_or m (a + k) 0) (get_or n (b + k) 0)
  pub below : (w : ℕ) → w < a → get_or m' w 0 ≡ get_or m w 0
  pub above : (w : ℕ) → a + i ≤ w → get_or m' w 0 ≡ get_or m w 0

-- a whole row
pub united : (m m' n : List ℕ) (d s : ℕ) → Joined m m' n (d * 32) (s * 32) 32 → United m m' d n s
unfolding bit_of
united m m' n d s J =
    record {
      row = λ j h. ap (λ (x : ℕ). bit x (j % 64)) (J.inside (j / 64) (omega arith)) ∙ bit-or (get_or m (d * 32 + j / 64) 0) (get_or n (s * 32 + j / 64) 0) (j % 64);
      other = λ q j h ne. ap (λ (x : ℕ). bit x (j % 64)) (away q j h ne (dec_lt q d));
    }
  where
    away : (q j : ℕ) → j < 2048 → (q ≡ d → ⊥) → Dec (q < d) → get_or m' (q * 32 + j / 64) 0 ≡ get_or m (q * 32 + j / 64) 0
    away q j h ne (yes l) = J.below _ (omega arith)
    away q j h ne (no l) = J.above _ (omega arith)

-- one bit
pub inserted :
    (m : List ℕ) (r i w : ℕ) → w ≡ r * 32 + i / 64 → i < 2048 → w < length m → Inserted m (set m w (bit_or (get_or m w 0) (1 * 2 ^ (i % 64)))) r i
unfolding bit_of
inserted m r i w ew hi h =
    record {
      hit =
          ap (λ (x : ℕ). bit (get_or m' x 0) (i % 64)) (sym ew) ∙ at (i % 64)
          ∙ ap (λ (x : Bool). bit (get_or m w 0) (i % 64) || x) (bit-one-same (i % 64)) ∙ or-true (bit (get_or m w 0) (i % 64));
      other = λ q j hj ne. away q j hj ne (ℕ_discrete (q * 32 + j / 64) w);
    }
  where
    m' : List ℕ
    m' = set m w (bit_or (get_or m w 0) (1 * 2 ^ (i % 64)))

    at : (k : ℕ) → bit (get_or m' w 0) k ≡ (bit (get_or m w 0) k || bit (1 * 2 ^ (i % 64)) k)
    at k = ap (λ (x : ℕ). bit x k) (get_or-set_same m w _ 0 h) ∙ bit-or (get_or m w 0) (1 * 2 ^ (i % 64)) k

    away : (q j : ℕ) → j < 2048 → (q ≡ r → j ≡ i → ⊥) → Dec (q * 32 + j / 64 ≡ w) → bit (get_or m' (q * 32 + j / 64) 0) (j % 64) ≡ bit (get_or m (q * 32 + j / 64) 0) (j % 64)
    away q j hj ne (yes e) =
        let ne' : (j % 64 ≡ i % 64 → ⊥) = λ e'. ne (omega arith) (omega arith) in
        subst (λ (x : ℕ). bit (get_or m' x 0) (j % 64) ≡ bit (get_or m x 0) (j % 64)) (sym e)
        (at (j % 64) ∙ ap (λ (x : Bool). bit (get_or m w 0) (j % 64) || x) (bit-one-other (i % 64) (j % 64) ne') ∙ or-false (bit (get_or m w 0) (j % 64)))
    away q j hj ne (no e) = ap (λ (x : ℕ). bit x (j % 64)) (get_or-set_other m w (q * 32 + j / 64) _ 0 e)

-- ---- a bit in both rows
pub common-here :
    (m n : List ℕ) (r s i : ℕ) → i < 32 → get_or m (r * 32 + i) 0 < 2 ^ 64 → (bit_and (get_or m (r * 32 + i) 0) (get_or n (s * 32 + i) 0) ≡ 0 → ⊥)
    → true ≡ common m r n s
unfolding bit_of common
common-here m n r s i hi fits ne =
    let x = get_or m (r * 32 + i) 0 in
    let y = get_or n (s * 32 + i) 0 in
    let p = lowest 64 (bit_and x y) (lt_of_le_of_lt (and_le_l x y) fits) ne in
    let k : ℕ = count_trailing_zeros 64 (bit_and x y) in
    let hk : k < 64 = p.inside in
    let j : ℕ = i * 64 + k in
    let ej : j / 64 ≡ i = omega arith in
    let ek : j % 64 ≡ k = omega arith in
    sym (below-hit (λ v. bit_of m r v && bit_of n s v) 2048 j (omega arith) (rw (ej, ek) (sym (bit-and x y k) ∙ p.hit)))

pub common-nowhere :
    (m n : List ℕ) (r s : ℕ) → ((k : ℕ) → k < 32 → bit_and (get_or m (r * 32 + k) 0) (get_or n (s * 32 + k) 0) ≡ 0) → false ≡ common m r n s
unfolding bit_of common
common-nowhere m n r s h =
    sym
    (not-true _
    (λ t.
    let f = below-find (λ j. bit_of m r j && bit_of n s j) 2048 t in
    let j : ℕ = f.0 in
    let hj : j < 2048 = f.1 in
    true≢false
    (sym f.2 ∙ sym (bit-and (get_or m (r * 32 + j / 64) 0) (get_or n (s * 32 + j / 64) 0) (j % 64)) ∙ ap (λ (x : ℕ). bit x (j % 64)) (h (j / 64) (omega arith))
    ∙ bit-zero (j % 64))))
