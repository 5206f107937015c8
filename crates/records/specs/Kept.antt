-- The records of a run that pass a test, in their order: a run of its own, made of their bytes. Assumes nothing.
use Rattle.std.specs.Prelude.{ℕ, zero, suc, ◌*◌, Bool, true, false, List, [], ◌++◌, eqb, take, drop}
use Rattle.records.specs.declared.Record.{Record}
use Rattle.records.specs.Record.{record_at, records}

-- the six bytes of record i; and these or none
unfoldable pub bytes_at : List ℕ → ℕ → List ℕ
bytes_at s i = take 6 (drop (6 * i) s)

unfoldable pub bytes_where : Bool → List ℕ → ℕ → List ℕ
bytes_where true s i = bytes_at s i
bytes_where false s i = []

-- the bytes of those of the first n records that pass
unfoldable pub kept_up_to : (Record → Bool) → List ℕ → ℕ → List ℕ
kept_up_to p s zero = []
kept_up_to p s (suc n) = kept_up_to p s n ++ bytes_where (p (record_at s n)) s n

abbrev pub kept : (Record → Bool) → List ℕ → List ℕ
kept p s = kept_up_to p s (records s)

-- the run of the cutting sheets: the records of origin 0
abbrev pub on_sheet : Record → Bool
on_sheet r = eqb r.origin 0

unfoldable pub sheets : List ℕ → List ℕ
sheets s = kept on_sheet s

-- the run that a claim is answered from: the whole one, or that of the cutting sheets
unfoldable pub picked : List ℕ → Record → List ℕ
picked s claim = elim (eqb claim.origin 0) [ true ↦ s | false ↦ sheets s ]
