-- The converted book: the records that are no TRAY records, and where these do not name the last piece, one record that does. Assumes nothing.
use Rattle.std.specs.Prelude.{ℕ, ◌-◌, ◌/◌, ◌%◌, Bool, true, false, not, List, [], ◌∷◌, ◌++◌, eqb, ltb}
use Rattle.records.specs.declared.Record.{Record}
use Rattle.records.specs.Pieces.{piece_count}
use Rattle.records.specs.Kept.{kept}

abbrev pub no_tray : Record → Bool
no_tray r = not (eqb r.kind 5)

unfoldable pub no_trays : List ℕ → List ℕ
no_trays s = kept no_tray s

-- PART of piece m in piece 0, by a cutting sheet; or nothing
unfoldable pub in_whole : Bool → ℕ → List ℕ
in_whole true m = 1 ∷ 0 ∷ m % 256 ∷ m / 256 ∷ 0 ∷ 0 ∷ []
in_whole false m = []

unfoldable pub converted : List ℕ → List ℕ
converted s = no_trays s ++ in_whole (ltb (piece_count (no_trays s)) (piece_count s)) (piece_count s - 1)
