-- What the steps of a call promise each other. Assumes nothing.
use Rattle.records.specs.Refused.{BookCheck, ClaimsCheck, refused_at}
use Rattle.outcomes.specs.Accepted.{Outcome}
use Rattle.std.specs.Prelude.{ℕ, ◌≡◌, List, length, replicate, Err, Ok}
use Rattle.records.specs.Record.{records}
use Rattle.records.specs.Check.{book_check, claims_check}
use Rattle.closure.specs.Counted.{Counted}
use Rattle.outcomes.specs.Lent.{Lent}
use Rattle.outcomes.specs.Call.{by_runs, left}

-- rows 3 to 13: the piece count, or the first refusal
unfoldable pub after_claims : ℕ → ClaimsCheck → BookCheck
after_claims n (Err r) = Err r
after_claims n (Ok _) = Ok n

unfoldable pub after_book : List ℕ → BookCheck → BookCheck
after_book cs (Err r) = Err r
after_book cs (Ok n) = after_claims n (claims_check n cs)

unfoldable pub rows_check : List ℕ → List ℕ → BookCheck
rows_check s cs = after_book cs (book_check s)

-- zeroes of these lengths
pub record Cleared (a b c d : ℕ) (parens marks shadows places : List ℕ) : Type 0 where
  pub parens-are : parens ≡ replicate a 0
  pub marks-are : marks ≡ replicate b 0
  pub shadows-are : shadows ≡ replicate c 0
  pub places-are : places ≡ replicate d 0

-- a book and claims that pass the rows before 14, and buffers of exactly the lengths that are written
pub record Exact (s : List ℕ) (n : ℕ) (cs : List ℕ) (l : Lent) : Type 0 where
  pub sound : Counted s n
  pub fit : claims_check n cs ≡ Ok tt
  pub parens-long : length l.parens ≡ 2560
  pub marks-long : length l.marks ≡ 1280
  pub shadows-long : length l.shadows ≡ 8192
  pub places-long : length l.places ≡ 2048
  pub answers-long : length l.answers ≡ records cs

-- the same for answers beside an index that nobody asks for
pub record Answerable (s : List ℕ) (n : ℕ) (cs : List ℕ) (room : ℕ) : Type 0 where
  pub counted : Counted s n
  pub fit : claims_check n cs ≡ Ok tt
  pub rooms : room ≡ records cs

-- row 14's outcome, and what it leaves in them
pub record Judged (s : List ℕ) (n : ℕ) (cs : List ℕ) (l : Lent) (r : Outcome) (l' : Lent) : Type 0 where
  pub outcome-is : r ≡ by_runs s n
  pub left_is : l' ≡ left s cs l r
