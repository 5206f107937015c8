-- The pairs as a bit matrix, which the builder is given: bit p of row c says that p is a part of c. Assumes nothing.
use Rattle.std.specs.Prelude.{◌≡◌, Bool, ◌&&◌, List, ℕ, ◌<◌, ◌≤◌, ltb, length}
use Rattle.matrices.specs.Matrix.{bit_of}
use Rattle.index.specs.Pairs.{joined, Book}
use Rattle.index.specs.Index.{visits_of, Room}

-- the pairs of which both are of the n pieces; bits and rows from n on say nothing
unfoldable pub pair_of : ℕ → List ℕ → ℕ → ℕ → Bool
pair_of n m p c = (ltb p n && ltb c n) && bit_of m c p

-- what the builder asks: a book in a matrix, and lent parts with room for its index
pub record Buildable (n : ℕ) (m : List ℕ) (bytes mark_bytes shadow_count place_count : ℕ) : Type 0 where
  pub some : 0 < n
  pub small : n ≤ 2048
  pub matrix : length m ≡ 65536
  pub book : Book n (joined n (pair_of n m))
  pub room : Room n (joined n (pair_of n m)) bytes mark_bytes shadow_count place_count
  pub few : length (visits_of n (joined n (pair_of n m))) ≤ 65536

-- the matrix m' has the joins besides
pub record Completed (n : ℕ) (m m' : List ℕ) : Type 0 where
  pub pair : (p c : ℕ) → pair_of n m' p c ≡ joined n (pair_of n m) p c
