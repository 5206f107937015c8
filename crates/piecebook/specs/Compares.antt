-- What the call of include/piecebook.h on two books hands back. Assumes nothing.
use Rattle.compare.specs.Refused.{Comparison}
use Rattle.std.specs.Prelude.{◌≡◌, List, ℕ, length}
use Rattle.compare.specs.Call.{outcome, left}
use Rattle.compare.specs.Outcome.{number, place, book, together}
use Rattle.piecebook.specs.declared.comparisons.PiecebookComparison.{PiecebookComparison}

-- the numbers of a comparison
pub record Reported (o : Comparison) (r : PiecebookComparison) : Type 0 where
  pub number_is : r.number ≡ number o
  pub place_is : r.place ≡ place o
  pub book-is : r.book ≡ book o
  pub together-is : r.together ≡ together o

-- the result, and the output at exit, from the input alone
pub record Compares (s t cs out : List ℕ) (r : PiecebookComparison) (out' : List ℕ) : Type 0 where
  pub reported : Reported (outcome s t cs (length out)) r
  pub left_is : out' ≡ left s t cs out (outcome s t cs (length out))
