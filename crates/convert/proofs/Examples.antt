-- Conversions, computed: trays are dropped, and a piece that only a tray record named gets a record of its own. Assumes nothing.
use mathlib.Core.Path.{◌≡◌, refl}
use mathlib.Core.List.{[], ◌∷◌, ◌++◌, map}
use Rattle.records.specs.Record.{record_at}
use Rattle.records.specs.Pieces.{stated, largest, pieces_up_to}
use Rattle.records.specs.Kept.{bytes_at, bytes_where, kept_up_to}
use Rattle.records.proofs.Examples.{bytes}
use Rattle.convert.specs.Converted.{no_trays, in_whole, converted}

conversions-are :
    map converted ([] ∷ bytes 5 1 3 65535 ∷ bytes 5 0 0 7 ∷ (bytes 5 0 300 9 ++ bytes 3 1 2 1 ++ bytes 5 1 2 0 ++ bytes 1 0 2 1) ∷ (bytes 2 0 1 2 ++ bytes 5 0 2 0) ∷ [])
    ≡ [] ∷ bytes 1 0 3 0 ∷ [] ∷ (bytes 3 1 2 1 ++ bytes 1 0 2 1 ++ bytes 1 0 300 0) ∷ bytes 2 0 1 2 ∷ []
unfolding converted no_trays in_whole record_at stated largest pieces_up_to bytes_at bytes_where kept_up_to
conversions-are = refl
