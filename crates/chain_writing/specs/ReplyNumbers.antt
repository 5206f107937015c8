-- Document 01's numbers of a reply. Assumes nothing.
use Rattle.chain_writing.specs.Reply.{Reply}
use Rattle.std.specs.Prelude.{ℕ, Err, Ok}
use Rattle.records.specs.Refusal.{refusal_number}
use Rattle.verdicts.specs.Answers.{answer_byte}

-- 0 for an answer, or the refusal's number; its place; and the answer's byte, 0 with a refusal
abbrev pub number : Reply → ℕ
number (Ok a) = 0
number (Err r) = refusal_number r.refusal

abbrev pub place : Reply → ℕ
place (Ok a) = 0
place (Err r) = r.place

abbrev pub answer : Reply → ℕ
answer (Ok a) = answer_byte a
answer (Err r) = 0
