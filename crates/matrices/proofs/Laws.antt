-- The bits of a word under `|`, `&` and `1 << k`. Assumes nothing.
use mathlib.Core.Path.{◌≡◌, refl, sym, ap, subst, ◌∙◌}
use mathlib.Core.Bool.{true, false, ◌||◌, ◌&&◌}
use Prim.Native.Nat.{ℕ, zero, suc, ◌+◌, ◌-◌, ◌*◌, ◌/◌, ◌%◌, ◌^◌, ◌<◌, ◌≤◌}
use native.Mathlib.Nat.{mod-lt, div-eq_of_lt, one-mul, lt_of_lt_of_le}
use native.Mathlib.Numerals.{add-one, one-add}
use native.Mathlib.Decide.{dec_lt}
use native.Mathlib.Omega.{arith}
use lib.Dec.{eqb, lit<}
use lib.Count.{count_trailing_zeros, under}
use lib.Pow.{pow-lt, pow-add, pow_mono, shl-shr, shr-shr, shl_exact, shr_lt, pow_pos}
use lib.Bits.{bit_and, bit_or, or_shr, or_mod, and_shr, and_mod, shifted_even, and_mask}
use borrow.Author.Tests.{eq-eqb, ne_eqb}
use Rattle.matrices.specs.Matrix.{bit}

digit_lt : (x : ℕ) → x % 2 < 2
digit_lt x = mod-lt x (lit< tt)

or-digit : (x y : ℕ) → x < 2 → y < 2 → eqb (bit_or x y) 1 ≡ (eqb x 1 || eqb y 1)
or-digit zero zero p q = refl
or-digit zero (suc zero) p q = refl
or-digit zero (suc (suc y)) p q = absurd (omega arith)
or-digit (suc zero) zero p q = refl
or-digit (suc zero) (suc zero) p q = refl
or-digit (suc zero) (suc (suc y)) p q = absurd (omega arith)
or-digit (suc (suc x)) y p q = absurd (omega arith)

and-digit : (x y : ℕ) → x < 2 → y < 2 → eqb (bit_and x y) 1 ≡ (eqb x 1 && eqb y 1)
and-digit zero zero p q = refl
and-digit zero (suc zero) p q = refl
and-digit zero (suc (suc y)) p q = absurd (omega arith)
and-digit (suc zero) zero p q = refl
and-digit (suc zero) (suc zero) p q = refl
and-digit (suc zero) (suc (suc y)) p q = absurd (omega arith)
and-digit (suc (suc x)) y p q = absurd (omega arith)

pub bit-or : (a b k : ℕ) → bit (bit_or a b) k ≡ (bit a k || bit b k)
unfolding bit
bit-or a b k =
    ap (λ (x : ℕ). eqb x 1) (ap (λ (x : ℕ). x % 2) (or_shr a b k) ∙ or_mod (a / 2 ^ k) (b / 2 ^ k) 1)
    ∙ or-digit (a / 2 ^ k % 2) (b / 2 ^ k % 2) (digit_lt _) (digit_lt _)

pub bit-and : (a b k : ℕ) → bit (bit_and a b) k ≡ (bit a k && bit b k)
unfolding bit
bit-and a b k =
    ap (λ (x : ℕ). eqb x 1) (ap (λ (x : ℕ). x % 2) (and_shr a b k) ∙ and_mod (a / 2 ^ k) (b / 2 ^ k) 1)
    ∙ and-digit (a / 2 ^ k % 2) (b / 2 ^ k % 2) (digit_lt _) (digit_lt _)

-- ---- one bit
pub bit-one-same : (k : ℕ) → bit (1 * 2 ^ k) k ≡ true
unfolding bit
bit-one-same k = ap (λ (x : ℕ). eqb (x % 2) 1) (shl-shr 1 k)

one-above : (k j : ℕ) → k < j → bit (1 * 2 ^ k) j ≡ false
unfolding bit
one-above k j h = ap (λ (x : ℕ). eqb (x % 2) 1) (div-eq_of_lt (subst (λ (x : ℕ). x < 2 ^ j) (sym (one-mul (2 ^ k))) (pow-lt h)))

one_below : (j d : ℕ) → bit (1 * 2 ^ (suc d + j)) j ≡ false
unfolding bit
one_below j d =
    ap (λ (x : ℕ). eqb (x % 2) 1) (ap (λ (x : ℕ). x / 2 ^ j) (one-mul (2 ^ (suc d + j)) ∙ pow-add 2 (suc d) j) ∙ shl-shr (2 ^ suc d) j)
    ∙ ap (λ (x : ℕ). eqb x 1) (ap (λ (x : ℕ). x % 2) (sym (one-mul (2 ^ suc d))) ∙ shifted_even 1 d)

pub bit-one-other : (k j : ℕ) → (j ≡ k → ⊥) → bit (1 * 2 ^ k) j ≡ false
bit-one-other k j n = go (dec_lt k j)
  where
    go : Dec (k < j) → bit (1 * 2 ^ k) j ≡ false
    go (yes h) = one-above k j h
    go (no h) =
        let e : suc (k - (j + 1)) + j ≡ k = omega (arith, h, n) in
        subst (λ (x : ℕ). bit (1 * 2 ^ x) j ≡ false) e (one_below j (k - (j + 1)))

-- the machine's `1 << k` at 64 bits
pub one_shl : (k : ℕ) → k < 64 → (1 * 2 ^ k) % 2 ^ 64 ≡ 1 * 2 ^ k
one_shl k h = shl_exact 1 k 64 (lit< tt) (omega arith)

-- the machine's `x & 1`, at the digit above k
pub and_one : (x k : ℕ) → eqb (bit_and (x / 2 ^ k) 1) 1 ≡ bit x k
unfolding bit
and_one x k = ap (λ (y : ℕ). eqb y 1) (and_mask (x / 2 ^ k) 1)

-- ---- the lowest bit of a word that is not 0
pub bit-zero : (k : ℕ) → bit 0 k ≡ false
unfolding bit
bit-zero k = ap (λ (x : ℕ). eqb (x % 2) 1) (div-eq_of_lt (pow_pos k))

bit-half : (x k : ℕ) → bit x (suc k) ≡ bit (x / 2) k
unfolding bit
bit-half x k = ap (λ (y : ℕ). eqb (y % 2) 1) (ap (λ (n : ℕ). x / 2 ^ n) (sym (one-add k)) ∙ sym (shr-shr x 1 k))

-- what holds of the count t of zeros below the lowest set bit of x, a word of w bits
pub record Lowest (w x t : ℕ) : Type 0 where
  pub inside : t < w
  pub hit : bit x t ≡ true
  pub before : (k : ℕ) → k < t → bit x k ≡ false

pub lowest : (w x : ℕ) → x < 2 ^ w → (x ≡ 0 → ⊥) → Lowest w x (count_trailing_zeros w x)
unfolding count_trailing_zeros bit
lowest zero x h n = absurd (n (omega arith))
lowest (suc w) x h n = go (x % 2) refl (lowest w (x / 2) (shr_lt w 1 (subst (λ (e : ℕ). x < 2 ^ e) (sym (add-one w)) h)))
  where
    go : (d : ℕ) → x % 2 ≡ d → ((x / 2 ≡ 0 → ⊥) → Lowest w (x / 2) (count_trailing_zeros w (x / 2))) → Lowest (suc w) x (under d (count_trailing_zeros w (x / 2)))
    go (suc d) e ih = record { inside = omega arith; hit = eq-eqb (x / 2 ^ 0 % 2) 1 (omega arith); before = λ k l. absurd (omega arith) }
    go zero e ih =
        let r = ih (λ q. n (omega arith)) in
        record { inside = omega (arith, r.inside); hit = bit-half x (count_trailing_zeros w (x / 2)) ∙ r.hit; before = λ k l. down k l r.before }
      where
        down : (k : ℕ) → k < suc (count_trailing_zeros w (x / 2)) → ((j : ℕ) → j < count_trailing_zeros w (x / 2) → bit (x / 2) j ≡ false) → bit x k ≡ false
        down zero l f = ne_eqb (x / 2 ^ 0 % 2) 1 (λ q. omega arith)
        down (suc k) l f = bit-half x k ∙ f k (omega arith)

-- ---- a shifted word, and what lies beyond a word
pub bit_shifted : (x s k : ℕ) → bit (x / 2 ^ s) k ≡ bit x (s + k)
unfolding bit
bit_shifted x s k = ap (λ (y : ℕ). eqb (y % 2) 1) (shr-shr x s k)

pub bit-beyond : (w x k : ℕ) → x < 2 ^ w → w ≤ k → bit x k ≡ false
unfolding bit
bit-beyond w x k h l = ap (λ (y : ℕ). eqb (y % 2) 1) (div-eq_of_lt (lt_of_lt_of_le h (pow_mono l)))
