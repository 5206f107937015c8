-- What the calls of include/piecebook.h on a working book hand back: the promises of `working`, with document 01's numbers. Assumes nothing.
use Rattle.outcomes.specs.Accepted.{Outcome}
use Rattle.std.specs.Prelude.{◌≡◌, List, [], ◌∷◌, ℕ, Err, Ok}
use Rattle.outcomes.specs.Outcome.{number, place}
use Rattle.working.specs.declared.keeping.Working.{Working}
use Rattle.working.specs.declared.keeping.Asked.{Asked}
use Rattle.working.specs.Kept as on
use Rattle.piecebook.specs.declared.PiecebookWorking.{PiecebookWorking}
use Rattle.piecebook.specs.declared.PiecebookWorkingResult.{PiecebookWorkingResult}

abbrev pub state_of : PiecebookWorking → Working
state_of w = record { records = w.records; pieces = w.pieces }

pub record Replied (o : Outcome) (answer : ℕ) (r : PiecebookWorkingResult) : Type 0 where
  pub number_is : r.number ≡ number o
  pub place_is : r.place ≡ place o
  pub answer-is : r.answer ≡ answer

-- the counts of an accepted start; a refused one leaves them
abbrev pub begun_counts : List ℕ → Working → Outcome → List ℕ
begun_counts state begun (Ok n) = begun.records ∷ begun.pieces ∷ []
begun_counts state begun (Err r) = state

pub record Started (state area : List ℕ) (r : PiecebookWorkingResult) (state' area' : List ℕ) : Type 0 where
  pub outcome : Outcome
  pub begun : Working
  pub called : on.Started area outcome begun area'
  pub told : Replied outcome 0 r
  pub counts : state' ≡ begun_counts state begun outcome

pub record Added (w : PiecebookWorking) (area a : List ℕ) (r : PiecebookWorkingResult) (w' : PiecebookWorking) (area' : List ℕ) : Type 0 where
  pub outcome : Outcome
  pub called : on.Added (state_of w) area a outcome (state_of w') area'
  pub told : Replied outcome 0 r

pub record Withdrawn (w : PiecebookWorking) (area : List ℕ) (i : ℕ) (r : PiecebookWorkingResult) (w' : PiecebookWorking) (area' : List ℕ) : Type 0 where
  pub outcome : Outcome
  pub called : on.Withdrawn (state_of w) area i outcome (state_of w') area'
  pub told : Replied outcome 0 r

pub record Answered (w : PiecebookWorking) (area c : List ℕ) (r : PiecebookWorkingResult) : Type 0 where
  pub asked : Asked
  pub called : on.Answered (state_of w) area c asked
  pub told : Replied asked.outcome asked.answer r
