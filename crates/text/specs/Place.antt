-- The lines from which entries are read: those with words. Assumes nothing.
use Rattle.std.specs.Prelude.{ℕ, suc, ◌*◌, ◌-◌, ◌≤◌, min, ◌≡◌, List, [], ◌∷◌, length, take, drop, get_or, Some, Ok}
use Rattle.records.specs.declared.Record.{Record}
use Rattle.text.specs.declared.Form.{Form}
use Rattle.text.specs.Line.{line_of}
use Rattle.text.specs.Entry.{size, bytes_of}
use Rattle.text.specs.Text.{Entries, most, lines_of, read_text}
use Rattle.text.specs.Lent.{entries_of}
use Rattle.text.specs.Word.{word}
use Rattle.text.specs.Tests.{if_true}
use Rattle.text.specs.Either.{is_text}

-- the number of a line, where it has a word, before others
abbrev pub numbered_if : List ℕ → ℕ → List ℕ → List ℕ
numbered_if [] n ns = ns
numbered_if (x ∷ w) n ns = n ∷ ns

unfoldable pub numbered : ℕ → List (List ℕ) → List ℕ
numbered n [] = []
numbered n (l ∷ ls) = numbered_if (word l) n (numbered (suc n) ls)

-- the line of entry k, counted from 1; 0 where there is none
unfoldable pub place_line : List ℕ → ℕ → ℕ
place_line text k = get_or (numbered 1 (lines_of text)) k 0

-- of a source in either form: records have no lines
unfoldable pub line_in : List ℕ → ℕ → ℕ
line_in source k = if_true (is_text source) (place_line source k) 0

-- how many entries a line stands for
abbrev pub one_if : List ℕ → ℕ
one_if [] = 0
one_if (x ∷ w) = 1

unfoldable pub entries_on : List ℕ → ℕ
entries_on l = one_if (word l)

-- a text that is read has an entry for each of these lines, as far as reading goes
abbrev pub EntryForEach : Type 0
EntryForEach = (form : Form) (text bytes : List ℕ) → read_text form text ≡ Entries bytes → length bytes ≡ size form * min (most form) (length (numbered 1 (lines_of text)))

-- the line of that number, read by itself, says entry k, byte for byte
pub record Says (form : Form) (n : ℕ) (ls : List (List ℕ)) (line : ℕ) (bytes : List ℕ) : Type 0 where
  pub counted : n ≤ line
  pub entry : Record
  pub says : line_of form (get_or ls (line - n) []) ≡ Ok (Some entry)
  pub same : bytes_of form entry ≡ bytes

-- so for every entry that was read, before a bad line too
abbrev pub LineSaysEntry : Type 0
LineSaysEntry =
    (form : Form) (text : List ℕ) (k : ℕ) → size form * suc k ≤ length (entries_of (read_text form text))
    → Says form 1 (lines_of text) (place_line text k) (take (size form) (drop (size form * k) (entries_of (read_text form text))))
