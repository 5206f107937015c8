-- What the converter of include/piecebook.h hands back. Assumes nothing.
use Rattle.std.specs.Prelude.{◌≡◌, List, ℕ}
use Rattle.std.proofs.Math.ListN as on
use Rattle.convert.specs.Conversion.{number, place, size, conversion, left, Conversion}
use Rattle.piecebook.specs.declared.results.PiecebookConverted.{PiecebookConverted}

-- the numbers of a conversion
pub record Told (c : Conversion) (r : PiecebookConverted) : Type 0 where
  pub number_is : r.number ≡ number c
  pub place_is : r.place ≡ place c
  pub length-is : r.length ≡ size c

-- the result, and the output at exit, from the input alone
pub record Converts (s out : List ℕ) (r : PiecebookConverted) (out' : List ℕ) : Type 0 where
  pub told : Told (conversion s (on.length out)) r
  pub left_is : out' ≡ left s out (conversion s (on.length out))
