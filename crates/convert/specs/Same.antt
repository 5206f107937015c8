-- What a converted book t is to the book s that it comes from. Assumes nothing.
use Rattle.std.specs.Prelude.{ℕ, ◌≡◌, List, Ok}
use Rattle.rules.specs.Fact.{Within, unmarked}
use Rattle.rules.specs.Derives.{Contradictory}
use Rattle.rules.specs.Verdict.{verdict}
use Rattle.records.specs.declared.Record.{Record}
use Rattle.records.specs.Check.{book_check}
use Rattle.records.specs.Facts.{saying, facts}
use Rattle.records.specs.Kept.{picked}
use Rattle.records.specs.Marked.{marked}
use Rattle.records.specs.Pieces.{piece_count}

-- no row of the edition in force refuses t, and it has the pieces of s
pub record InForce (s t : List ℕ) : Type 0 where
  pub sound : book_check t ≡ Ok (piece_count s)
  pub counted : piece_count t ≡ piece_count s
  pub consistent : Contradictory (marked t) (piece_count t) (facts t) → ⊥

-- every claim about the pieces, restricted or not, has the same answer in both; the former edition has no marks
abbrev pub SameAnswers : List ℕ → List ℕ → Type 0
SameAnswers s t =
    (claim : Record) → Within (piece_count s) (saying claim)
    → verdict (marked t) (piece_count t) (facts (picked t claim)) (saying claim) ≡ verdict unmarked (piece_count s) (facts (picked s claim)) (saying claim)
