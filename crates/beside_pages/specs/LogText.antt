-- The text of `replicates`: a line for each entry of the log. Assumes nothing.
use Rattle.outcomes.specs.Accepted.{Outcome}
use Rattle.std.specs.Prelude.{ℕ, ◌+◌, ◌*◌, List, [], ◌∷◌, get_or, replicate, Err, Ok}
use Rattle.replicates.specs.declared.Window.{Window}
use Rattle.replicates.specs.Log.{entry_count, entry_at}
use Rattle.replicates.specs.Call.{outcome, left}
use Rattle.pages.specs.Text.{ascii, line}
use Rattle.pages.specs.Decimal.{decimal}
use Rattle.pages.specs.Entry.{entry}
use Rattle.pages.specs.Lines.{lines}
use Rattle.sentences.specs.Refusals.{refused}
use Rattle.sentences.specs.Sources.{of_book, of_log}

abbrev pub flags : List ℕ
flags = ascii "NO\nYES\n"

-- its number, its piece, how many before it are APART, and whether every two of these and it are
unfoldable pub entry_line : (i piece apart flag : ℕ) → List ℕ
entry_line i piece apart flag = line (decimal i ∷ decimal piece ∷ decimal apart ∷ entry flag flags ∷ [])

-- the first n entries of a log, each with its two bytes
unfoldable pub entry_lines : (log bytes : List ℕ) → ℕ → List ℕ
entry_lines log bytes n = lines (λ i. entry_line i (entry_at log i) (get_or bytes (2 * i) 0) (get_or bytes (2 * i + 1) 0)) n

-- the log is taken whole: no entries come before it
abbrev pub none : Window
none = record { pieces = replicate 31 0; count = 0 }

-- of an outcome and bytes, where the book and the log were read from sources
unfoldable pub text_of : (log source other : List ℕ) → Outcome → (bytes : List ℕ) → List ℕ
text_of log source other (Ok n) bytes = entry_lines log bytes (entry_count log)
text_of log source other (Err r) bytes = refused r.refusal r.place source other

-- of the call's outcome and of the bytes that it leaves
unfoldable pub measured_text : (book log source other : List ℕ) → List ℕ
measured_text book log source other =
    text_of log source other (outcome book none log 65538) (left book none log (replicate 65538 0) (outcome book none log 65538))

unfoldable pub log_text : (source other : List ℕ) → List ℕ
log_text source other = of_book source (λ book. of_log other (λ log. measured_text book log source other))
