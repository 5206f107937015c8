-- The pieces that a book marks as void, as one row of bits. Assumes nothing.
use Rattle.std.specs.Prelude.{ℕ, ◌≤◌, ◌≡◌, Bool, false, List, length}
use Rattle.matrices.specs.Matrix.{bit_of}
use Rattle.records.specs.Marked.{marked}

-- bit g of the row
unfoldable pub void_of : List ℕ → ℕ → Bool
void_of row g = bit_of row 0 g

-- a row of 32 words in which piece 0 is not marked
pub record Voids (row : List ℕ) : Type 0 where
  pub sized : length row ≡ 32
  pub whole : void_of row 0 ≡ false

-- a run that marks none but the pieces 1 to 2,047
pub record Markable (s : List ℕ) : Type 0 where
  pub whole : marked s 0 ≡ false
  pub small : (g : ℕ) → 2048 ≤ g → marked s g ≡ false
