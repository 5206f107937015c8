-- The answers from the cutting sheets and those from all facts. Assumes nothing.
use Rattle.std.specs.Prelude.{ℕ, ◌≡◌, List}
use Rattle.rules.specs.Fact.{Fact, Within}
use Rattle.rules.specs.Verdict.{verdict}
use Rattle.records.specs.Facts.{facts}
use Rattle.records.specs.Pieces.{piece_count}
use Rattle.records.specs.Kept.{sheets}
use Rattle.records.specs.Marked.{marked}
use Rattle.outcomes.specs.Lent.{Lent}
use Rattle.outcomes.specs.Outcome.{number}
use Rattle.outcomes.specs.Call.{outcome}

-- an answer FOLLOWS or DENIED from the sheets is the same from all facts, with the book's marks in both
pub record Agree (n : ℕ) (s : List ℕ) (f : Fact) : Type 0 where
  pub follows : verdict (marked s) n (facts (sheets s)) f ≡ 1 → verdict (marked s) n (facts s) f ≡ 1
  pub denied : verdict (marked s) n (facts (sheets s)) f ≡ 2 → verdict (marked s) n (facts s) f ≡ 2

-- of every claim about the pieces of an accepted book
abbrev pub SheetsAgree : Type 0
SheetsAgree = (s cs : List ℕ) (l : Lent) → number (outcome s cs l) ≡ 0 → (f : Fact) → Within (piece_count s) f → Agree (piece_count s) s f
