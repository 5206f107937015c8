-- What the catalog calls of include/piecebook.h hand back: the promises of `catalog`, with document 01's numbers. Assumes nothing.
use Rattle.catalog.specs.Listing.{Listing}
use Rattle.std.specs.Prelude.{◌≡◌, Bool, not, List, ℕ, eqb}
use Rattle.lists.specs.Tally.{num}
use Rattle.catalog.specs.Lent.{Lent}
use Rattle.catalog.specs.Call.{outcome, left}
use Rattle.catalog.specs.Outcome.{number, place, counts}
use Rattle.areas.specs.Question.{Answers}
use Rattle.piecebook.specs.declared.catalogs.PiecebookCatalogResult.{PiecebookCatalogResult}

-- the numbers of a catalog
pub record Counted (o : Listing) (r : PiecebookCatalogResult) : Type 0 where
  pub number_is : r.number ≡ number o
  pub place_is : r.place ≡ place o
  pub pieces_are : r.pieces ≡ (counts o).pieces
  pub nodes-are : r.nodes ≡ (counts o).nodes
  pub shadows-are : r.shadows ≡ (counts o).shadows
  pub listed-are : r.listed ≡ (counts o).listed
  pub meets-are : r.meets ≡ (counts o).meets
  pub apart-are : r.apart ≡ (counts o).apart
  pub notpart-are : r.notpart ≡ (counts o).notpart

-- the result, and every buffer at exit, from the input alone
pub record Catalogs (s : List ℕ) (k g : ℕ) (l : Lent) (r : PiecebookCatalogResult) (l' : Lent) : Type 0 where
  pub counted : Counted (outcome s k g l) r
  pub left_is : l' ≡ left s k g l (outcome s k g l)

-- the range question answered by 1 or 0; any `unordered` but 0 stands for an unordered kind
pub record Asked (area : List ℕ) (count unordered row_from row_to column_from column_to r : ℕ) : Type 0 where
  pub answer : Bool
  pub told : r ≡ num answer
  pub is : Answers area count (not (eqb unordered 0)) row_from row_to column_from column_to answer
