-- What row 14 says of a run: that it is free, or where it is contradictory. Assumes nothing.
use Rattle.std.specs.Prelude.{ℕ, Result, Ok, Err}
use Rattle.index.specs.declared.building.Counts.{Counts}
use Rattle.contradiction.specs.declared.row_14.Clash.{Clash}

abbrev pub Row14 : Type 0
Row14 = Result (Unit {0}) Clash

-- the same with the counts of the run's index
abbrev pub Settled : Type 0
Settled = Result Counts Clash

abbrev pub clashed_at : {A : Type 0} → ℕ → Result A Clash
clashed_at k = Err (record { place = k })

abbrev pub free_with : ℕ → ℕ → Settled
free_with v h = Ok (record { nodes = v; shadows = h })
