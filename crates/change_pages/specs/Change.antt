-- What a command that writes a file comes to: a new book, or the line that says why the file stays as it is. Assumes nothing.
use Rattle.std.specs.Prelude.{ℕ, Bool, true, false, List, [], ◌∷◌}
use Rattle.records.specs.Record.{records}
use Rattle.records.specs.Pieces.{piece_count}
use Rattle.pages.specs.Text.{ascii, line}
use Rattle.pages.specs.Decimal.{decimal}

pub data Change : Type 0 where
  New : (run : List ℕ) → Change
  Kept : (text : List ℕ) → Change

-- the records and pieces of the book that now stands in the file
unfoldable pub new_line : List ℕ → List ℕ
new_line run = line (ascii "RECORDS" ∷ decimal (records run) ∷ ascii "PIECES" ∷ decimal (piece_count run) ∷ [])

abbrev pub change_text : Change → List ℕ
change_text (New run) = new_line run
change_text (Kept text) = text

abbrev pub changes : Change → Bool
changes (New run) = true
changes (Kept text) = false
