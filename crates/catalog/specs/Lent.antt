-- The lent buffers of a catalog: the four parts of the index, a list of pieces, and an area for each of three kinds. Assumes nothing.
use Rattle.std.specs.Prelude.{ℕ, Bool, ◌||◌, List, [], ltb, length}
use Rattle.outcomes.specs.Lent as answers

-- the index parts are those of the call that writes the index alone
pub record Lent : Type 0 where
  pub index : answers.Lent
  pub list : List ℕ
  pub meets : List ℕ
  pub apart : List ℕ
  pub notpart : List ℕ

abbrev pub lent : List ℕ → List ℕ → List ℕ → List ℕ → List ℕ → List ℕ → List ℕ → List ℕ → Lent
lent parens marks shadows places list meets apart notpart =
    record { index = answers.lent parens marks shadows places []; list = list; meets = meets; apart = apart; notpart = notpart }

-- row 17: a list of fewer than 2,048 numbers, or an area of fewer than 16,384
unfoldable pub short_catalog : Lent → Bool
short_catalog l =
    ltb (length l.list) 2048 || (ltb (length l.meets) 16384 || (ltb (length l.apart) 16384 || ltb (length l.notpart) 16384))
