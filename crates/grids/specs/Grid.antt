-- A grid: 64 rows of 64 bits, and what the functions make of one. Assumes nothing: these are definitions.
use Rattle.std.specs.Prelude.{ℕ, ◌<◌, ◌≡◌, Bool, true, ◌&&◌, ◌||◌, List, eqb, get_or}
use Rattle.lists.specs.Any.{any_below}
use Rattle.matrices.specs.Matrix.{bit}

-- bit b of row a
unfoldable pub bit_at : List ℕ → ℕ → ℕ → Bool
bit_at l a b = bit (get_or l a 0) b

-- row r is the row y with each row h of z put in whose bit is set in the row x
abbrev pub Gathered : ℕ → ℕ → List ℕ → ℕ → Type 0
Gathered y x z r = (k : ℕ) → bit r k ≡ (bit y k || any_below (λ h. bit x h && bit_at z h k) 64)

-- r is y with the product of x and z put in
pub record Multiplied (y x z r : List ℕ) : Type 0 where
  pub bits : (g k : ℕ) → g < 64 → k < 64 → bit_at r g k ≡ (bit_at y g k || any_below (λ h. bit_at x g h && bit_at z h k) 64)

-- row by row from the first, each row of x takes in the rows that it names, those before it as they are by then: r has every bit of x and of the product
-- of x with itself, and no bit that a transitive relation with all of x lacks
pub record Swept (x r : List ℕ) : Type 0 where
  pub kept : (g k : ℕ) → g < 64 → k < 64 → bit_at x g k ≡ true → bit_at r g k ≡ true
  pub hit : (g h k : ℕ) → g < 64 → h < 64 → k < 64 → bit_at x g h ≡ true → bit_at x h k ≡ true → bit_at r g k ≡ true
  pub sound :
      (T : ℕ → ℕ → Bool) → ((g h k : ℕ) → g < 64 → h < 64 → k < 64 → T g h ≡ true → T h k ≡ true → T g k ≡ true)
      → ((g k : ℕ) → g < 64 → k < 64 → bit_at x g k ≡ true → T g k ≡ true) → (g k : ℕ) → g < 64 → k < 64 → bit_at r g k ≡ true → T g k ≡ true

-- r is l with bit b of row a set
pub record Inserted (l r : List ℕ) (a b : ℕ) : Type 0 where
  pub bits : (x y : ℕ) → x < 64 → y < 64 → bit_at r x y ≡ (bit_at l x y || (eqb a x && eqb b y))

-- r is y with the transpose of x put in
pub record TurnedOnto (y x r : List ℕ) : Type 0 where
  pub bits : (g k : ℕ) → g < 64 → k < 64 → bit_at r g k ≡ (bit_at y g k || bit_at x k g)

-- r is the transpose of x
pub record Turned (x r : List ℕ) : Type 0 where
  pub bits : (g k : ℕ) → g < 64 → k < 64 → bit_at r g k ≡ bit_at x k g

-- r is x with its transpose put in
pub record Mirrored (x r : List ℕ) : Type 0 where
  pub bits : (g k : ℕ) → g < 64 → k < 64 → bit_at r g k ≡ (bit_at x g k || bit_at x k g)
