-- What a conversion comes to, from its input alone: number, place and length, and every byte of the output. Assumes nothing.
use Rattle.records.specs.Refused.{BookCheck, refused_at}
use Rattle.std.specs.Prelude.{ℕ, Result, ◌-◌, ◌≡◌, true, false, List, ltb, leb, length, Err, Ok}
use Rattle.lists.specs.Front.{front}
use Rattle.rules.specs.Fact.{unmarked}
use Rattle.rules.specs.Entries.{shortest_clash}
use Rattle.records.specs.Record.{records}
use Rattle.records.specs.Facts.{entries}
use Rattle.records.specs.Refusal.{refusal_number}
use Rattle.records.specs.Check.{former_check}
use Rattle.records.specs.declared.Refusal.TheVariants.{ShortBuffer, Contradiction}
use Rattle.records.specs.declared.Refused.{Refused}
use Rattle.convert.specs.Converted.{converted}

-- how many bytes are written, or the first refusal and its place
abbrev pub Conversion : Type 0
Conversion = Result ℕ Refused

-- 0 where a new book is written, or the refusal's number; the refusal's place; and the bytes written
abbrev pub number : Conversion → ℕ
number (Ok k) = 0
number (Err r) = refusal_number r.refusal

abbrev pub place : Conversion → ℕ
place (Ok k) = 0
place (Err r) = r.place

abbrev pub size : Conversion → ℕ
size (Ok k) = k
size (Err r) = 0

-- row 14, from the shortest contradictory run; the former edition has no marks
unfoldable pub by_runs : List ℕ → ℕ → Conversion
by_runs s n =
    elim (leb (shortest_clash unmarked n (entries s)) (records s)) [
      | true ↦ refused_at Contradiction (shortest_clash unmarked n (entries s) - 1)
      | false ↦ Ok (length (converted s))
    ]

unfoldable pub by_book : List ℕ → BookCheck → Conversion
by_book s (Err r) = Err r
by_book s (Ok n) = by_runs s n

-- row 1 for an output of m bytes, then the rows of the former edition
unfoldable pub conversion : List ℕ → ℕ → Conversion
conversion s m = elim (ltb m (length s)) [ true ↦ refused_at ShortBuffer 0 | false ↦ by_book s (former_check s) ]

-- the output at exit: the new book at its front, or as it was
unfoldable pub left : List ℕ → List ℕ → Conversion → List ℕ
left s out (Ok k) = front (converted s) out
left s out (Err r) = out

abbrev pub Determined : List ℕ → List ℕ → Conversion → List ℕ → Type 0
Determined s out r out' = (r ≡ conversion s (length out)) × (out' ≡ left s out r)
