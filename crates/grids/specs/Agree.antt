-- The grids and the question call. Assumes nothing.
use Rattle.outcomes.specs.Accepted.{Outcome}
use Rattle.std.specs.Prelude.{ℕ, ◌<◌, ◌≡◌, List, eqb, get_or}
use Rattle.records.specs.Record.{record_at, records}
use Rattle.outcomes.specs.Lent.{Lent}
use Rattle.records.specs.Claimed.{claimed}
use Rattle.outcomes.specs.Call.{outcome, left}
use Rattle.outcomes.specs.Outcome.{number}
use Rattle.grids.specs.declared.rounds.Grids.{Grids}
use Rattle.grids.specs.Closed.{holds}
use Rattle.grids.specs.Gridded.{Gridded}

-- where both calls accept the book, the bit of a claim on all facts is set exactly where the question call answers it by 1, FOLLOWS
abbrev pub GridAgrees : Type 0
GridAgrees =
    (s cs : List ℕ) (l : Lent) (o : Outcome) (g : Grids) → Gridded s o g → number o ≡ 0 → number (outcome s cs l) ≡ 0 → (i : ℕ) → i < records cs
    → (record_at cs i).origin ≡ 0 → holds g (claimed cs i) ≡ eqb (get_or (left s cs l (outcome s cs l)).answers i 0) 1
