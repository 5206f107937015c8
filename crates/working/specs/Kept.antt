-- The state and the record area after a start, an addition or a withdrawal. Assumes nothing.
use Rattle.outcomes.specs.Accepted.{Outcome}
use Rattle.std.specs.Prelude.{◌≡◌, ℕ, List, [], Err, Ok}
use Rattle.records.specs.Record.{records}
use Rattle.parentheses.specs.Padded.{padded}
use Rattle.lists.specs.Front.{front}
use Rattle.working.specs.declared.keeping.Working.{Working}
use Rattle.working.specs.declared.keeping.Settled.{Settled}
use Rattle.working.specs.declared.keeping.Asked.{Asked}
use Rattle.outcomes.specs.Fresh.{fresh_call}
use Rattle.working.specs.Standing.{standing, extended, without}
use Rattle.working.specs.Rows.{start_outcome, add_outcome, withdraw_outcome, ask_outcome, answer_of}

-- acceptance keeps the new record count and the fresh call's piece count; a refusal leaves both
unfoldable pub kept_state : Working → ℕ → Outcome → Working
kept_state w k (Ok n) = record { records = k; pieces = n.pieces }
kept_state w k (Err r) = w

-- acceptance writes the front of the area, and later bytes are untouched; a refusal writes nowhere
unfoldable pub kept_area : List ℕ → List ℕ → Outcome → List ℕ
kept_area area image (Ok n) = front image area
kept_area area image (Err r) = area

-- the run, with zeros behind it up to 49,152 bytes
unfoldable pub image : List ℕ → List ℕ
image run = padded 0 49152 run

-- a call that may write is determined: outcome, state and every byte of the area at exit, from the run that it would leave and what it comes to
abbrev pub Determined : Working → List ℕ → List ℕ → Outcome → Outcome → Working → List ℕ → Type 0
Determined w area run due r w' area' = (r ≡ due) × ((w' ≡ kept_state w (records run) due) × (area' ≡ kept_area area (image run) due))

abbrev pub no_records : Working
no_records = record { records = 0; pieces = 0 }

abbrev pub Started : List ℕ → Outcome → Working → List ℕ → Type 0
Started area r w' area' = Determined no_records area [] (start_outcome area) r w' area'

abbrev pub Added : Working → List ℕ → List ℕ → Outcome → Working → List ℕ → Type 0
Added w area a r w' area' = Determined w area (extended area w.records a) (add_outcome area w.records a) r w' area'

abbrev pub Withdrawn : Working → List ℕ → ℕ → Outcome → Working → List ℕ → Type 0
Withdrawn w area i r w' area' = Determined w area (without area w.records i) (withdraw_outcome area w.records i) r w' area'

-- behind the first rows: the run that is judged is the run that is kept
abbrev pub Extended : Working → List ℕ → List ℕ → Settled → List ℕ → Type 0
Extended w area run r area' = Determined w area run (fresh_call run []) r.outcome r.working area'

abbrev pub Answered : Working → List ℕ → List ℕ → Asked → Type 0
Answered w area c r = (r.outcome ≡ ask_outcome area w.records c) × (r.answer ≡ answer_of (standing area w.records) c r.outcome)
