-- The line of a new book, and how long it is. Assumes nothing.
use Prim.Native.Nat.{ℕ, ◌≤◌, ◌<◌, ◌^◌}
use mathlib.Core.Path.{◌≡◌}
use mathlib.Core.List.{List, [], ◌∷◌, ◌++◌}
use native.Mathlib.Omega.{arith}
use lib.ListN.{length, length-append}
use Rattle.records.specs.Record.{records}
use Rattle.records.specs.Pieces.{piece_count}
use Rattle.pages.specs.Text.{ascii, field, line}
use Rattle.pages.specs.Decimal.{decimal}
use Rattle.pages.proofs.Decimals.{decimal-length}
use Rattle.change_pages.specs.Change.{new_line}

line-width : (a b : ℕ) → a < 2 ^ 64 → b < 2 ^ 64 → length (line (ascii "RECORDS" ∷ decimal a ∷ ascii "PIECES" ∷ decimal b ∷ [])) ≤ 142
line-width a b h k = simp length-append (omega (arith, decimal-length 19 a (omega arith), decimal-length 19 b (omega arith)))

module _ (run : List ℕ) (pieces : ℕ) (is : pieces ≡ piece_count run) where
  pub new-line : ascii "RECORDS " ++ (field (decimal (records run)) 32 ++ (ascii "PIECES " ++ field (decimal pieces) 10)) ≡ new_line run
  unfolding new_line
  new-line = rw is

  pub new-width : records run < 2 ^ 64 → pieces < 2 ^ 64 → length (new_line run) ≤ 142
  unfolding new_line
  new-width h k = rw is at (line-width (records run) pieces h k)
