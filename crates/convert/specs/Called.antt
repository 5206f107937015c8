-- A converted book t of s in the calls in force, with any claims and buffers that fit. Assumes nothing.
use Rattle.std.specs.Prelude.{◌≡◌, false, List, ℕ, Ok}
use Rattle.records.specs.Pieces.{piece_count}
use Rattle.records.specs.Check.{former_check, claims_check}
use Rattle.records.specs.Claimed.{answers_to}
use Rattle.outcomes.specs.Lent.{Lent, short_lent}
use Rattle.outcomes.specs.Call.{outcome}
use Rattle.outcomes.specs.Outcome.{number}
use Rattle.convert.specs.Same.{InForce, SameAnswers}

-- is accepted
abbrev pub ConvertedAccepted : Type 0
ConvertedAccepted =
    (s t cs : List ℕ) (l : Lent) → InForce s t → short_lent cs l ≡ false → claims_check (piece_count s) cs ≡ Ok tt → number (outcome t cs l) ≡ 0

-- and answers every claim of the list, restricted or not, as the former book does, which marks nothing
abbrev pub ConvertedAnswers : Type 0
ConvertedAnswers =
    (s t cs : List ℕ) (l : Lent) → InForce s t → short_lent cs l ≡ false → claims_check (piece_count s) cs ≡ Ok tt
    → former_check s ≡ Ok (piece_count s) → SameAnswers s t → answers_to t (piece_count s) cs ≡ answers_to s (piece_count s) cs
