-- What the call of a session comes to, in the buffers of document 01. Assumes nothing.
use Rattle.outcomes.specs.Accepted.{Outcome}
use Rattle.std.specs.Prelude.{◌≡◌, List, ℕ}
use Rattle.outcomes.specs.Call.{outcome, left}
use Rattle.report.specs.Page.{zeros}

-- the outcome, and the answers that it leaves
pub record Answered (book claims answers' : List ℕ) (o : Outcome) : Type 0 where
  pub comes : o ≡ outcome book claims zeros
  pub leaves : answers' ≡ (left book claims zeros o).answers
