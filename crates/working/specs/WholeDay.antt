-- A whole day of a working book, from its start. Assumes nothing.
use Rattle.outcomes.specs.Accepted.{Outcome}
use Rattle.std.specs.Prelude.{◌≡◌, List, [], ℕ, ◌≤◌, length}
use Rattle.working.specs.declared.keeping.Working.{Working}
use Rattle.working.specs.Kept.{Started}
use Rattle.working.specs.Sequence.{Stands}
use Rattle.working.specs.Day.{Operation, Reply, day, replies, Played}

-- after a start in an area that is long enough, and any list of calls, each reply is that of a fresh call on the records then standing, and these stand in
-- the area, with the fresh call's piece count
abbrev pub WholeDay : Type 0
WholeDay =
    (area : List ℕ) (w w' : Working) (area₁ area' : List ℕ) (xs : List Operation) (rs : List Reply) (r : Outcome)
    → 49152 ≤ length area → Started area r w area₁ → Played w area₁ xs rs w' area' → (rs ≡ replies xs []) × Stands w' area' (day xs [])
