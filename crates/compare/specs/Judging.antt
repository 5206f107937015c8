-- What the steps of a comparison promise each other. Assumes nothing.
use Rattle.records.specs.Refused.{BookCheck, refused_at}
use Rattle.outcomes.specs.Accepted.{Outcome, accepted_with}
use Rattle.compare.specs.Refused.{Comparison, refused_of}
use Rattle.std.specs.Prelude.{ℕ, max, ◌≡◌, List, [], Ok}
use Rattle.records.specs.Facts.{facts}
use Rattle.records.specs.Check.{book_check, claims_check}
use Rattle.records.specs.declared.Refusal.{Refusal}
use Rattle.closure.specs.Void.{Markable}
use Rattle.closure.specs.Bounded.{Bounded}
use Rattle.records.specs.Claimed.{answers_to}
use Rattle.outcomes.specs.Call.{by_runs}
use Rattle.outcomes.specs.Fresh.{fresh_call}
use Rattle.compare.specs.Call.{by_book, by_rows, left}

-- a run about n pieces whose marks fit
pub record Judgeable (run : List ℕ) (n : ℕ) : Type 0 where
  pub bounded : Bounded n (facts run)
  pub markable : Markable run

-- row 14 of the book, and its answers where it is accepted
pub record Answered (s : List ℕ) (n : ℕ) (cs : List ℕ) (r : Outcome) (answers : List ℕ) : Type 0 where
  pub outcome-is : r ≡ by_runs s n
  pub answers-are : (a b c : ℕ) → r ≡ accepted_with a b c → answers ≡ answers_to s n cs

-- two books that rows 3 to 9 accept, the count of the larger, and claims that fit it
pub record Ready (s t cs : List ℕ) (n : ℕ) : Type 0 where
  pub own : ℕ
  pub other : ℕ
  pub first : book_check s ≡ Ok own
  pub second : book_check t ≡ Ok other
  pub larger : n ≡ max own other
  pub fit : claims_check (max own other) cs ≡ Ok tt

-- rows 3 to 13 of both and of the claims: where one of them refuses, the fresh calls say whether a book is refused, and by what
pub record Rows (s t cs : List ℕ) (r : BookCheck) : Type 0 where
  pub accepted : (n : ℕ) → r ≡ Ok n → Ready s t cs n
  pub refused : (x : Refusal) (i : ℕ) → r ≡ refused_at x i → by_rows s t cs ≡ by_book 1 (fresh_call s []) (by_book 2 (fresh_call t []) (refused_of 0 x i))

-- what the rows behind 1 come to, and the output
abbrev pub Judged : List ℕ → List ℕ → List ℕ → List ℕ → Comparison → List ℕ → Type 0
Judged s t cs out r out' = (r ≡ by_rows s t cs) × (out' ≡ left s t cs out r)
