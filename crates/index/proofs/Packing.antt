-- Bits in bytes and numbers in a part: what stands at each place, and that the rest is zero. Assumes nothing.
use mathlib.Core.Path.{◌≡◌, refl, sym, ap, ◌∙◌}
use mathlib.Core.Bool.{Bool, true, false}
use mathlib.Core.List.{List, [], ◌∷◌, ◌++◌}
use Prim.Native.Nat.{ℕ, zero, suc, ◌+◌, ◌*◌, ◌-◌, ◌/◌, ◌%◌, ◌^◌, ◌≤◌, ◌<◌}
use native.Mathlib.Nat.{pow-suc, div-one, zero-div}
use native.Mathlib.Decide.{dec_lt}
use native.Mathlib.Omega.{arith}
use lib.Dec.{eqb}
use lib.ListN.{length, get_or, take, drop, replicate, get_or-replicate, length-take, get_or-append, get_or-eq_default}
use lib.Pow.{shr-shr, pow_mono}
use lib.Seq.{ext_get_or, get_or-take, get_or-drop, get_or-append-add}
use Rattle.lists.proofs.Tabs.{tab-at, tab-length, take-tab}
use Rattle.parentheses.specs.Bits.{bits, bit_of, digit}
use Rattle.lists.specs.Tally.{num}
use Rattle.parentheses.specs.Padded.{padded}
use Rattle.parentheses.proofs.PackedLaws.{bits-length, bits_at}
use Rattle.parentheses.proofs.Paddeds.{padded-length}
use Rattle.parentheses.proofs.Unpacked.{bits-same}
use Rattle.index.specs.Parts.{value, packed}

-- ---- a list in n elements

pub padded-at : {A : Type 0} (d : A) (n : ℕ) (xs : List A) (i : ℕ) → i < n → get_or (padded d n xs) i d ≡ get_or xs i d
unfolding padded
padded-at {A} d n xs i b = go (dec_lt i (length xs))
  where
    go : Dec (i < length xs) → get_or (xs ++ replicate (n - length xs) d) i d ≡ get_or xs i d
    go (yes h) = get_or-append xs (replicate (n - length xs) d) d i h
    go (no h) =
        let e : length xs + (i - length xs) ≡ i = omega arith in
        (rw e at (get_or-append-add xs (replicate (n - length xs) d) (i - length xs) d ∙ get_or-replicate (n - length xs) (i - length xs) d d (omega arith)))
        ∙ sym (get_or-eq_default xs d {n = i} (omega arith))

-- a list that agrees with xs at every place
pub by-places : {A : Type 0} (d : A) (buf xs : List A) → length xs ≤ length buf → ((i : ℕ) → i < length buf → get_or buf i d ≡ get_or xs i d) → buf ≡ padded d (length buf) xs
by-places d buf xs l h = ext_get_or d buf (padded d (length buf) xs) (sym (padded-length d (length buf) xs l))
    (λ i b. h i b ∙ sym (padded-at d (length buf) xs i b))

-- ---- bytes

value-lt : (xs : List Bool) → value xs < 2 ^ length xs
unfolding value
value-lt [] = omega arith
value-lt (true ∷ xs) = omega (arith, value-lt xs, pow-suc 2 (length xs))
value-lt (false ∷ xs) = omega (arith, value-lt xs, pow-suc 2 (length xs))

digit_low : (b : Bool) (v : ℕ) → digit (num b + 2 * v) 0 ≡ num b
unfolding digit
digit_low true v = omega (arith, div-one (1 + 2 * v))
digit_low false v = omega (arith, div-one (0 + 2 * v))

half : (b : Bool) (v : ℕ) → (num b + 2 * v) / 2 ≡ v
half true v = omega arith
half false v = omega arith

digit-high : (b : Bool) (v j : ℕ) → digit (num b + 2 * v) (suc j) ≡ digit v j
unfolding digit
digit-high b v j =
    let e : 1 + j ≡ suc j = omega arith in
    sym (ap (λ (x : ℕ). x % 2) (ap (λ (x : ℕ). x / 2 ^ j) (sym (half b v)) ∙ shr-shr (num b + 2 * v) 1 j ∙ ap (λ (s : ℕ). (num b + 2 * v) / 2 ^ s) e))

digit-none : (j : ℕ) → digit 0 j ≡ 0
unfolding digit
digit-none j = rw (zero-div (2 ^ j))

value-digit : (xs : List Bool) (j : ℕ) → digit (value xs) j ≡ num (get_or xs j false)
unfolding value
value-digit [] zero = digit-none 0
value-digit [] (suc j) = digit-none (suc j)
value-digit (b ∷ xs) zero = digit_low b (value xs)
value-digit (b ∷ xs) (suc j) = digit-high b (value xs) j ∙ value-digit xs j

one-is : (b : Bool) → eqb (num b) 1 ≡ b
one-is true = refl
one-is false = refl

module _ (len : ℕ) (bs : List Bool) where
  byte : ℕ → ℕ
  byte j = value (take 8 (drop (8 * j) bs))

  packed-length : length (packed len bs) ≡ len
  unfolding packed
  packed-length = tab-length (λ j. value (take 8 (drop (8 * j) bs))) 0 len

  packed-at : (j : ℕ) → j < len → get_or (packed len bs) j 0 ≡ byte j
  unfolding packed byte
  packed-at j l = tab-at (λ j. value (take 8 (drop (8 * j) bs))) len j 0 l

  packed-bit : (k : ℕ) → k < 8 * len → bit_of (packed len bs) k ≡ get_or bs k false
  unfolding bit_of byte
  packed-bit k l =
      let e : 8 * (k / 8) + k % 8 ≡ k = omega arith in
      rw (
        packed-at (k / 8) (omega arith),
        value-digit (take 8 (drop (8 * (k / 8)) bs)) (k % 8),
        get_or-take 8 (drop (8 * (k / 8)) bs) (k % 8) false (omega arith),
        get_or-drop (8 * (k / 8)) bs (k % 8) false,
        e,
      )
      (one-is (get_or bs k false))

  -- fewer bytes
  pub packed-cut : (k : ℕ) → k ≤ len → take k (packed len bs) ≡ packed k bs
  unfolding packed
  packed-cut k l = take-tab (λ j. value (take 8 (drop (8 * j) bs))) 0 len k l

  -- the bits of packed bytes: the bits, and zeros
  pub packed-is : length bs ≤ 8 * len → bits (packed len bs) ≡ padded false (8 * len) bs
  packed-is r =
      let e : length (bits (packed len bs)) ≡ 8 * len = bits-length (packed len bs) ∙ ap (λ (x : ℕ). 8 * x) packed-length in
      rw e at (by-places false (bits (packed len bs)) bs (omega arith)
      (λ k l. bits_at (packed len bs) k (omega (arith, packed-length)) ∙ packed-bit k (omega arith)))

  packed-small : (j : ℕ) → get_or (packed len bs) j 0 < 256
  packed-small j = go (dec_lt j len)
    where
      go : Dec (j < len) → get_or (packed len bs) j 0 < 256
      go (yes l) = unfold byte in rw (packed-at j l) (omega (arith, value-lt (take 8 (drop (8 * j) bs)), pow_mono {i = length (take 8 (drop (8 * j) bs))} {j = 8} (omega (arith, length-take 8 (drop (8 * j) bs)))))
      go (no l) = omega (arith, get_or-eq_default (packed len bs) 0 {n = j} (omega (arith, packed-length)))

-- bytes that hold the bits at every place
pub by_bits : (buf : List ℕ) (bs : List Bool) → length bs ≤ 8 * length buf → ((i : ℕ) → get_or buf i 0 < 256) → ((k : ℕ) → get_or (bits buf) k false ≡ get_or bs k false)
    → buf ≡ packed (length buf) bs
by_bits buf bs r small h = bits-same buf (packed (length buf) bs) small (packed-small (length buf) bs)
    ((rw (bits-length buf) at (by-places false (bits buf) bs (omega (arith, bits-length buf)) (λ k l. h k))) ∙ sym (packed-is (length buf) bs r))
