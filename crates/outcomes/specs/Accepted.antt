-- What a call comes to: the counts of an accepted book, or the first refusal and its place. Assumes nothing.
use Rattle.std.specs.Prelude.{ℕ, Result, Ok}
use Rattle.records.specs.declared.Refused.{Refused}
use Rattle.outcomes.specs.declared.Counts.{Counts}

abbrev pub Outcome : Type 0
Outcome = Result Counts Refused

abbrev pub accepted_with : ℕ → ℕ → ℕ → Outcome
accepted_with n v h = Ok (record { pieces = n; nodes = v; shadows = h })
