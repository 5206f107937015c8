-- An addition gets number 4 only with 8,192 or more records standing. Assumes nothing.
use Rattle.records.specs.Refused.{refused_at}
use Rattle.std.specs.Prelude.{◌≡◌, List, ℕ, ◌≤◌}
use Rattle.records.specs.declared.Refusal.TheVariants.{TooManyRecords}
use Rattle.working.specs.Rows.{add_outcome}

abbrev pub FourOnly : Type 0
FourOnly = (area a : List ℕ) (k i : ℕ) → add_outcome area k a ≡ refused_at TooManyRecords i → 8192 ≤ k
