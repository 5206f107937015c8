-- Document 01's numbers of an outcome. Assumes nothing.
use Rattle.outcomes.specs.Accepted.{Outcome}
use Rattle.std.specs.Prelude.{ℕ, Err, Ok}
use Rattle.records.specs.Refusal.{refusal_number}

-- 0 for acceptance, or the refusal's number; and its place, a record's or claim's number
abbrev pub number : Outcome → ℕ
number (Ok pieces) = 0
number (Err r) = refusal_number r.refusal

abbrev pub place : Outcome → ℕ
place (Ok pieces) = 0
place (Err r) = r.place

-- the counts, 0 where the book is refused
abbrev pub piece_count : Outcome → ℕ
piece_count (Ok pieces) = pieces.pieces
piece_count (Err r) = 0

abbrev pub node_count : Outcome → ℕ
node_count (Ok pieces) = pieces.nodes
node_count (Err r) = 0

abbrev pub shadow_count : Outcome → ℕ
shadow_count (Ok pieces) = pieces.shadows
shadow_count (Err r) = 0
