-- A matrix of bits: rows of 32 words of 64 bits, and what the functions make of one. Assumes nothing: these are definitions.
use Rattle.std.specs.Prelude.{◌≡◌, List, Bool, true, false, ◌||◌, ◌&&◌, ℕ, ◌+◌, ◌*◌, ◌/◌, ◌%◌, ◌^◌, ◌<◌, ◌≤◌, eqb, length, get_or}
use Rattle.lists.specs.Any.{any_below}

-- a row for each piece, 32 words a row
abbrev pub IsMatrix : List ℕ → Type 0
IsMatrix m = length m ≡ 65536

-- bit k of the word x
unfoldable pub bit : ℕ → ℕ → Bool
bit x k = eqb (x / 2 ^ k % 2) 1

-- bit i of row r of m
unfoldable pub bit_of : List ℕ → ℕ → ℕ → Bool
bit_of m r i = bit (get_or m (r * 32 + i / 64) 0) (i % 64)

-- row r of m and row s of n have a bit in common
unfoldable pub common : List ℕ → ℕ → List ℕ → ℕ → Bool
common m r n s = any_below (λ j. bit_of m r j && bit_of n s j) 2048

-- bit y of row r of the product of a and b: some x has a bit in row r of a, and y in row x of b
unfoldable pub through : List ℕ → List ℕ → ℕ → ℕ → Bool
through a b r y = any_below (λ x. bit_of a r x && bit_of b x y) 2048

-- the rows of m below n have no bits; those behind them are free
pub record Blank (n : ℕ) (m : List ℕ) : Type 0 where
  pub bits : (r i : ℕ) → r < n → i < 2048 → bit_of m r i ≡ false

-- m' is m with bit i of row r set
pub record Inserted (m m' : List ℕ) (r i : ℕ) : Type 0 where
  pub hit : bit_of m' r i ≡ true
  pub other : (q j : ℕ) → j < 2048 → (q ≡ r → j ≡ i → ⊥) → bit_of m' q j ≡ bit_of m q j

-- m' is m with the bits that `more` says put into row d
pub record Joins (m m' : List ℕ) (d : ℕ) (more : ℕ → Bool) : Type 0 where
  pub row : (j : ℕ) → j < 2048 → bit_of m' d j ≡ (bit_of m d j || more j)
  pub other : (q j : ℕ) → j < 2048 → (q ≡ d → ⊥) → bit_of m' q j ≡ bit_of m q j

-- m' is m with row s of n put into row d
abbrev pub United : List ℕ → List ℕ → ℕ → List ℕ → ℕ → Type 0
United m m' d n s = Joins m m' d (bit_of n s)

-- m' is m with row r of the product of a and b put into row r
abbrev pub Gathered : List ℕ → List ℕ → List ℕ → ℕ → List ℕ → Type 0
Gathered m m' a r b = Joins m m' r (through a b r)

-- m' is m with the rows below n of the product of a and b put in
pub record Multiplied (m m' a b : List ℕ) (n : ℕ) : Type 0 where
  pub row : (r y : ℕ) → r < n → y < 2048 → bit_of m' r y ≡ (bit_of m r y || through a b r y)
  pub other : (r y : ℕ) → n ≤ r → y < 2048 → bit_of m' r y ≡ bit_of m r y
