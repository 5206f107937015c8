-- Which two pieces are certainly APART, one bit for each pair. Assumes nothing.
use Rattle.std.specs.Prelude.{ℕ, ◌<◌, ◌≡◌, Bool, true, ◌&&◌, ◌||◌, List, eqb, ltb, length}
use Rattle.matrices.specs.Matrix.{bit_of}
use Rattle.rules.specs.Fact.{Fact, APART}
use Rattle.rules.specs.Follows.{follows}
use Rattle.closure.specs.Stored.{stored_bit}

-- one of x and y is piece 0, and the other is a marked piece below n
abbrev pub marked_apart : (ℕ → Bool) → ℕ → ℕ → ℕ → Bool
marked_apart void n x y = (eqb x 0 && (ltb y n && void y)) || (eqb y 0 && (ltb x n && void x))

-- what is apart before containment counts: by a stored APART, or by a mark, which says that the piece is apart from piece 0
unfoldable pub apart_bit : (ℕ → Bool) → ℕ → List Fact → ℕ → ℕ → Bool
apart_bit void n fs x y = stored_bit fs 2 true true x y || marked_apart void n x y

-- a matrix that tells which pieces below n are apart
pub record Aparts (void : ℕ → Bool) (n : ℕ) (fs : List Fact) (a : List ℕ) : Type 0 where
  pub sized : length a ≡ 65536
  pub bits : (x y : ℕ) → x < n → y < n → bit_of a x y ≡ follows void n fs (APART x y)
