-- What the calls of include/piecebook.h hand back. Assumes nothing.
use Rattle.outcomes.specs.Accepted.{Outcome}
use Rattle.std.specs.Prelude.{◌≡◌, List, ℕ}
use Rattle.outcomes.specs.Lent.{Lent}
use Rattle.outcomes.specs.Call.{outcome, left}
use Rattle.outcomes.specs.Outcome.{number, place, piece_count, node_count, shadow_count}
use Rattle.piecebook.specs.declared.results.PiecebookResult.{PiecebookResult}

-- document 01's numbers of an outcome
pub record Reported (o : Outcome) (r : PiecebookResult) : Type 0 where
  pub number_is : r.number ≡ number o
  pub place_is : r.place ≡ place o
  pub pieces_are : r.pieces ≡ piece_count o
  pub nodes-are : r.nodes ≡ node_count o
  pub shadows-are : r.shadows ≡ shadow_count o

-- the result, and every buffer at exit, from the input alone
pub record Exported (s cs : List ℕ) (l : Lent) (r : PiecebookResult) (l' : Lent) : Type 0 where
  pub reported : Reported (outcome s cs l) r
  pub left_is : l' ≡ left s cs l (outcome s cs l)
