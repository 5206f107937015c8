-- The facts of a run of records, one entry a record (marks and TRAY bring none), and a claim as a fact. Assumes nothing.
use Rattle.std.specs.Prelude.{ℕ, true, false, List}
use Rattle.lists.specs.Tab.{tab}
use Rattle.rules.specs.Fact.{Fact, fact_of}
use Rattle.rules.specs.Entries.{Entry, fact, none, facts_of}
use Rattle.records.specs.declared.Record.{Record}
use Rattle.records.specs.Record.{record_at, records}
use Rattle.records.specs.Pieces.{stated}

-- what a record of kind 1 to 4, or a claim, says
abbrev pub saying : Record → Fact
saying r = fact_of r.kind r.a r.b

unfoldable pub entry_of : Record → Entry
entry_of r = elim (stated r) [ true ↦ fact (saying r) | false ↦ none ]

-- one entry for each whole record, at the record's number
unfoldable pub entries : List ℕ → List Entry
entries s = tab (λ i. entry_of (record_at s i)) 0 (records s)

abbrev pub facts : List ℕ → List Fact
facts s = facts_of (entries s)
