-- What the functions of the reader promise each other. Assumes nothing.
use Rattle.std.specs.Prelude.{ℕ, ◌+◌, ◌-◌, ◌≤◌, ◌≡◌, List, [], Some, None, Result, Ok, Err, length, take, drop}
use Rattle.lists.specs.Front.{front, placed}
use Rattle.text.specs.declared.Form.{Form}
use Rattle.text.specs.declared.Reason.{Reason}
use Rattle.text.specs.declared.Reason.TheVariants.{NotNumber}
use Rattle.text.specs.declared.reading.Unread.{Unread}
use Rattle.text.specs.Number.{number}
use Rattle.text.specs.Word.{word, rest}
use Rattle.text.specs.Line.{Line, line_of}
use Rattle.text.specs.Lines.{lines}
use Rattle.text.specs.Entry.{bytes_of}
use Rattle.text.specs.Text.{Reading, most, read_lines}
use Rattle.text.specs.Lent.{answer_of, entries_of}

-- the first word behind a position, by its place; where there is none both ends are the same
pub record WordAt (l : List ℕ) (at from to : ℕ) : Type 0 where
  pub ordered : from ≤ to
  pub inside : to ≤ length l
  pub is : take (to - from) (drop from l) ≡ word (drop at l)
  pub left : drop to l ≡ rest (drop at l)

-- the number that word is, and the place behind it
pub record NumberAt (l : List ℕ) (at n next : ℕ) : Type 0 where
  pub is : number (word (drop at l)) ≡ Some n
  pub left : drop next l ≡ rest (drop at l)
  pub inside : next ≤ length l

-- or that word is none
pub record NoNumberAt (l : List ℕ) (at : ℕ) (reason : Reason) : Type 0 where
  pub none : number (word (drop at l)) ≡ None
  pub why : reason ≡ NotNumber

-- the bytes that a line adds, and how many are done behind it
abbrev pub adds : Form → Line → List ℕ
adds form (Ok None) = []
adds form (Ok (Some e)) = bytes_of form e
adds form (Err reason) = []

abbrev pub step_of : Form → ℕ → Line → Result ℕ Reason
step_of form done (Ok None) = Ok done
step_of form done (Ok (Some e)) = Ok (done + length (bytes_of form e))
step_of form done (Err reason) = Err reason

pub record Stepped (form : Form) (l : List ℕ) (done : ℕ) (out out' : List ℕ) (r : Result ℕ Reason) : Type 0 where
  pub goes : r ≡ step_of form done (line_of form l)
  pub puts : out' ≡ placed done (adds form (line_of form l)) out

-- the lines from a place on
unfoldable pub read_from : Form → (from : ℕ) → List ℕ → Reading
read_from form from text = read_lines form (most form) 1 [] (lines (drop from text))

abbrev pub lines_into : Form → (from : ℕ) → List ℕ → Result ℕ Unread
lines_into form from text = answer_of (read_from form from text)

abbrev pub lines_leave : Form → (from : ℕ) → (text out : List ℕ) → List ℕ
lines_leave form from text out = front (entries_of (read_from form from text)) out
