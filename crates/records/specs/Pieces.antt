-- The pieces that records name, and how many pieces a run of records has. Assumes nothing.
use Rattle.std.specs.Prelude.{ℕ, zero, suc, max, Bool, true, false, ◌&&◌, List, leb, eqb}
use Rattle.records.specs.declared.Record.{Record}
use Rattle.records.specs.Record.{record_at, records}

-- kinds 1 to 4: the record states a fact about the pieces a and b
unfoldable pub stated : Record → Bool
stated r = leb 1 r.kind && leb r.kind 4

-- kind 6: the record marks its piece a as void
abbrev pub marking : Record → Bool
marking r = eqb r.kind 6

-- the largest piece number that a record names: a in every kind, b in kinds 1 to 4
abbrev pub larger : Bool → ℕ → ℕ → ℕ
larger true a b = max a b
larger false a b = a

unfoldable pub largest : Record → ℕ
largest r = larger (stated r) r.a r.b

-- one more than the largest number that the first n records name, and 1 where nothing is named
unfoldable pub pieces_up_to : List ℕ → ℕ → ℕ
pieces_up_to s zero = 1
pieces_up_to s (suc n) = max (pieces_up_to s n) (suc (largest (record_at s n)))

abbrev pub piece_count : List ℕ → ℕ
piece_count s = pieces_up_to s (records s)
