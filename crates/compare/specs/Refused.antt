-- What a comparison comes to: whether the records of both books hold together, or whose refusal it is. Assumes nothing.
use Rattle.std.specs.Prelude.{ℕ, Bool, Result, Err}
use Rattle.records.specs.declared.Refusal.{Refusal}
use Rattle.compare.specs.declared.RefusedOf.{RefusedOf}

abbrev pub Comparison : Type 0
Comparison = Result Bool RefusedOf

abbrev pub refused_of : {A : Type 0} → ℕ → Refusal → ℕ → Result A RefusedOf
refused_of k r i = Err (record { book = k; refusal = r; place = i })
