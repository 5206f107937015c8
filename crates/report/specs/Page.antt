-- All that the program prints, from the bytes of the book and of the claims. Assumes nothing.
use Rattle.outcomes.specs.Accepted.{Outcome}
use Rattle.std.specs.Prelude.{ℕ, List, replicate}
use Rattle.outcomes.specs.Lent.{Lent, lent}
use Rattle.outcomes.specs.Call.{outcome, left}
use Rattle.outcomes.specs.Outcome.{number, place, piece_count, node_count, shadow_count}
use Rattle.report.specs.Session.{session}

-- the buffers that the program lends: document 01's lengths, and an answer for each claim that it reads
unfoldable pub zeros : Lent
zeros = lent (replicate 2560 0) (replicate 1280 0) (replicate 8192 0) (replicate 2048 0) (replicate 4097 0)

-- the page of an outcome and answers
abbrev pub page_of : List ℕ → Outcome → List ℕ → List ℕ
page_of claims o answers = session (number o) (place o) (piece_count o) (node_count o) (shadow_count o) claims answers

-- the page of the call's outcome and of the answers that it leaves
unfoldable pub printed : (book claims : List ℕ) → List ℕ
printed book claims = page_of claims (outcome book claims zeros) (left book claims zeros (outcome book claims zeros)).answers
