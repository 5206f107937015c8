-- What C gets of the grid call. Assumes nothing.
use Rattle.std.specs.Prelude.{◌≡◌, List, ℕ}
use Rattle.rules.specs.Fact.{Fact, Within}
use Rattle.outcomes.specs.Outcome.{number, place}
use Rattle.grids.specs.declared.rounds.Grids.{Grids}
use Rattle.grids.specs.Closed.{holds}
use Rattle.grids.specs.Gridded.{grid_outcome, bit_for}
use Rattle.piecebook.specs.declared.PiecebookGrids.{PiecebookGrids}

-- the four grids
abbrev pub grids_of : PiecebookGrids → Grids
grids_of r = record { part = r.part; apart = r.apart; meets = r.meets; notpart = r.notpart }

-- document 01's numbers of the outcome, and every bit
pub record GridResult (s : List ℕ) (r : PiecebookGrids) : Type 0 where
  pub number_is : r.number ≡ number (grid_outcome s)
  pub place_is : r.place ≡ place (grid_outcome s)
  pub bits : (f : Fact) → Within 64 f → holds (grids_of r) f ≡ bit_for s (grid_outcome s) f
