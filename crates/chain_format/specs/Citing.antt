-- What a step may cite of each record: the fact that it states, where the claim lets it, or that it marks a piece as void. Assumes nothing.
use Rattle.std.specs.Prelude.{ℕ, Bool, true, false, ◌||◌, List, eqb}
use Rattle.lists.specs.Tab.{tab}
use Rattle.lists.specs.Any.{any}
use Rattle.rules.specs.Fact.{Fact}
use Rattle.records.specs.declared.Record.{Record}
use Rattle.records.specs.Record.{record_at, records}
use Rattle.records.specs.Pieces.{stated, marking}
use Rattle.records.specs.Facts.{saying}
use Rattle.records.specs.Kept.{on_sheet}

pub data Cited : Type 0 where
  fact : Fact → Cited
  mark : ℕ → Cited
  none : Cited

-- a claim picks all facts, or those of cutting sheets
abbrev pub lets : Record → Record → Bool
lets claim r = eqb claim.origin 0 || on_sheet r

-- a mark may be cited whatever its origin
unfoldable pub cited_of : Record → Record → Cited
cited_of claim r =
    elim (stated r) [
      | true ↦ elim (lets claim r) [ true ↦ fact (saying r) | false ↦ none ]
      | false ↦ elim (marking r) [ true ↦ mark r.a | false ↦ none ]
    ]

-- one for each whole record, at the record's number
unfoldable pub citing : Record → List ℕ → List Cited
citing claim s = tab (λ i. cited_of claim (record_at s i)) 0 (records s)

-- what is cited is a mark of piece g; and some of a list is
unfoldable pub marks_piece : ℕ → Cited → Bool
marks_piece g (fact f) = false
marks_piece g (mark x) = eqb x g
marks_piece g none = false

unfoldable pub marks_some : List Cited → ℕ → Bool
marks_some es g = any (marks_piece g) es
