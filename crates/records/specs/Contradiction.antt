-- The place of refusal 14 by document 01's own words: the last record of the shortest contradictory run from the start. Assumes nothing.
use Rattle.std.specs.Prelude.{ℕ, ◌+◌, ◌*◌, ◌≤◌, ◌<◌, Bool, List, take}
use Rattle.rules.specs.Derives.{Contradictory}
use Rattle.records.specs.Record.{records}
use Rattle.records.specs.Facts.{facts}

-- with these marks the first place + 1 records are contradictory, and no fewer are
pub record Contradiction (void : ℕ → Bool) (n : ℕ) (run : List ℕ) (place : ℕ) : Type 0 where
  pub present : place < records run
  pub here : Contradictory void n (facts (take (6 * (place + 1)) run))
  pub earlier : (k : ℕ) → k ≤ place → Contradictory void n (facts (take (6 * k) run)) → ⊥
