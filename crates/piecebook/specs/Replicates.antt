-- What the call of include/piecebook.h on a part of the measurement log hands back. Assumes nothing.
use Rattle.std.specs.Prelude.{◌≡◌, List, ℕ, length}
use Rattle.outcomes.specs.Outcome.{number, place}
use Rattle.replicates.specs.Call.{outcome, handed_back, left}
use Rattle.replicates.specs.declared.Window.{Window}
use Rattle.piecebook.specs.declared.PiecebookReplicatesResult.{PiecebookReplicatesResult}

-- the result, and the output at exit, from the input alone
pub record Replicates (s : List ℕ) (w : Window) (log out : List ℕ) (r : PiecebookReplicatesResult) (out' : List ℕ) : Type 0 where
  pub number_is : r.number ≡ number (outcome s w log (length out))
  pub place_is : r.place ≡ place (outcome s w log (length out))
  pub window-is : r.window ≡ handed_back w log (outcome s w log (length out))
  pub left_is : out' ≡ left s w log out (outcome s w log (length out))
