-- The number and the place of a call, by those of the checks of its book and its claims. Assumes nothing.
use Rattle.std.specs.Prelude.{ℕ, ◌<◌, ◌≡◌, false, List}
use Rattle.records.specs.Check.{book_check, claims_check}
use Rattle.records.specs.CheckNumbers.{book_number, book_place, book_pieces, claims_number, claims_place}
use Rattle.outcomes.specs.Lent.{Lent, short_lent}
use Rattle.outcomes.specs.Call.{outcome}
use Rattle.outcomes.specs.Outcome.{number, place}

-- the number and the place of the call
abbrev pub Gives : List ℕ → List ℕ → Lent → ℕ → ℕ → Type 0
Gives s cs l x i = (number (outcome s cs l) ≡ x) × (place (outcome s cs l) ≡ i)

-- behind row 1: a book that its check refuses has the check's number and place; else claims that theirs refuses; else the number is 0 or 14
pub record Numbered (s cs : List ℕ) (l : Lent) : Type 0 where
  pub book : 0 < book_number (book_check s) → Gives s cs l (book_number (book_check s)) (book_place (book_check s))
  pub claims :
      book_number (book_check s) ≡ 0 → 0 < claims_number (claims_check (book_pieces (book_check s)) cs)
      → Gives s cs l (claims_number (claims_check (book_pieces (book_check s)) cs)) (claims_place (claims_check (book_pieces (book_check s)) cs))
  pub last :
      book_number (book_check s) ≡ 0 → claims_number (claims_check (book_pieces (book_check s)) cs) ≡ 0 → (number (outcome s cs l) ≡ 0 → ⊥) → number (outcome s cs l) ≡ 14

abbrev pub RowsNumbered : Type 0
RowsNumbered = (s cs : List ℕ) (l : Lent) → short_lent cs l ≡ false → Numbered s cs l
