-- The lent buffers and document 01's lengths for them. Assumes nothing.
use Rattle.std.specs.Prelude.{ℕ, Bool, ◌||◌, List, ltb, length, replicate}
use Rattle.records.specs.Record.{records}

-- what the buffers hold: the four parts of the index, and the answers
pub record Lent : Type 0 where
  pub parens : List ℕ
  pub marks : List ℕ
  pub shadows : List ℕ
  pub places : List ℕ
  pub answers : List ℕ

abbrev pub lent : List ℕ → List ℕ → List ℕ → List ℕ → List ℕ → Lent
lent parens marks shadows places answers = record { parens = parens; marks = marks; shadows = shadows; places = places; answers = answers }

-- answers beside an index of zeros that nobody asks for
abbrev pub unasked : List ℕ → Lent
unasked answers = lent (replicate 2560 0) (replicate 1280 0) (replicate 8192 0) (replicate 2048 0) answers

-- row 1: an index part shorter than its length, or the answers shorter than claim bytes / 6, rounded down
unfoldable pub short_lent : List ℕ → Lent → Bool
short_lent claims l =
    ltb (length l.parens) 2560
    || (ltb (length l.marks) 1280 || (ltb (length l.shadows) 8192 || (ltb (length l.places) 2048 || ltb (length l.answers) (records claims))))
