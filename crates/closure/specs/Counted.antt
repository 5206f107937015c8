-- A book with its marks, and with a count of pieces. Assumes nothing.
use Rattle.std.specs.Prelude.{ℕ, ◌≤◌, ◌≡◌, List, Ok}
use Rattle.records.specs.Marked.{marked}
use Rattle.records.specs.Check.{book_check}
use Rattle.closure.specs.Void.{void_of, Voids}

-- the marks of a book as a row of bits
abbrev pub MarksOf : List ℕ → List ℕ → Type 0
MarksOf s voids = Voids voids × (void_of voids ≡ marked s)

-- a book that rows 3 to 9 accept, and a count n of at least its pieces, to which those between belong too
pub record Counted (s : List ℕ) (n : ℕ) : Type 0 where
  pub own : ℕ
  pub sound : book_check s ≡ Ok own
  pub covered : own ≤ n
  pub small : n ≤ 2048
