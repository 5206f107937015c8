-- The claims of a list, the facts that each picks, and their answers. Assumes nothing.
use Rattle.std.specs.Prelude.{ℕ, List}
use Rattle.lists.specs.Tab.{tab}
use Rattle.rules.specs.Fact.{Fact}
use Rattle.rules.specs.Verdict.{verdict}
use Rattle.records.specs.Record.{record_at, records}
use Rattle.records.specs.Facts.{saying, facts}
use Rattle.records.specs.Kept.{picked}
use Rattle.records.specs.Marked.{marked}

-- claim i as a fact
unfoldable pub claimed : List ℕ → ℕ → Fact
claimed cs i = saying (record_at cs i)

-- the facts that claim i picks by its byte 1: all, or those of cutting sheets
abbrev pub picked_facts : List ℕ → List ℕ → ℕ → List Fact
picked_facts s cs i = facts (picked s (record_at cs i))

-- the answers to all claims: the whole book's marks count in each
unfoldable pub answers_to : List ℕ → ℕ → List ℕ → List ℕ
answers_to s n cs = tab (λ i. verdict (marked s) n (picked_facts s cs i) (claimed cs i)) 0 (records cs)
