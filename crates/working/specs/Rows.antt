-- What each call comes to, row by row, from the record area, the stated record count and the rest of the input. Assumes nothing.
use Rattle.outcomes.specs.Accepted.{Outcome}
use Rattle.std.specs.Prelude.{ℕ, not, List, [], eqb, ltb, leb, length, get_or, Err, Ok}
use Rattle.records.specs.Check.{book_check}
use Rattle.records.specs.declared.Refusal.TheVariants.{ShortBuffer, BookLength, TooManyRecords, NotStanding}
use Rattle.records.specs.Claimed.{answers_to}
use Rattle.outcomes.specs.Fresh.{fresh_call}
use Rattle.outcomes.specs.One.{refuse_if, by_one}
use Rattle.working.specs.Standing.{standing, extended, without}

-- the first rows of every call: 1 for an area below 49,152 bytes, 4 for a stated count above 8,192
unfoldable pub by_area : List ℕ → ℕ → Outcome → Outcome
by_area area k below = refuse_if (ltb (length area) 49152) ShortBuffer (refuse_if (ltb 8192 k) TooManyRecords below)

-- a start: a fresh call on no records
unfoldable pub start_outcome : List ℕ → Outcome
start_outcome area = by_area area 0 (fresh_call [] [])

-- an addition: 3 for other than 6 bytes, then a fresh call on the extended run, which has 4 for 8,193 records
unfoldable pub add_outcome : List ℕ → ℕ → List ℕ → Outcome
add_outcome area k a = by_area area k (refuse_if (not (eqb (length a) 6)) BookLength (fresh_call (extended area k a) []))

-- a withdrawal: 18 for a record that is not standing, then a fresh call on the run without it
unfoldable pub withdraw_outcome : List ℕ → ℕ → ℕ → Outcome
withdraw_outcome area k i = by_area area k (refuse_if (leb k i) NotStanding (fresh_call (without area k i) []))

-- a claim
unfoldable pub ask_outcome : List ℕ → ℕ → List ℕ → Outcome
ask_outcome area k c = by_area area k (by_one (standing area k) c (book_check (standing area k)))

-- the answer byte: the fresh call's to its one claim, 0 with a refusal
unfoldable pub answer_of : List ℕ → List ℕ → Outcome → ℕ
answer_of s c (Ok n) = get_or (answers_to s n.pieces c) 0 0
answer_of s c (Err r) = 0
