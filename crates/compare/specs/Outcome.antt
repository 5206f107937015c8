-- Document 01's numbers of a comparison. Assumes nothing.
use Rattle.compare.specs.Refused.{Comparison}
use Rattle.std.specs.Prelude.{ℕ, Err, Ok}
use Rattle.lists.specs.Tally.{num}
use Rattle.records.specs.Refusal.{refusal_number}

-- 0 for acceptance, or the refusal's number; its place; and the book that is refused, 1 or 2, or 0 for buffers and claims
abbrev pub number : Comparison → ℕ
number (Ok b) = 0
number (Err k) = refusal_number k.refusal

abbrev pub place : Comparison → ℕ
place (Ok b) = 0
place (Err k) = k.place

abbrev pub book : Comparison → ℕ
book (Ok b) = 0
book (Err k) = k.book

-- 1 where the records of both can be laid together; 0 on a refusal
abbrev pub together : Comparison → ℕ
together (Ok b) = num b
together (Err k) = 0
