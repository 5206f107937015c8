-- Document 01's numbers of what the checks of a book and of claims come to. Assumes nothing.
use Rattle.records.specs.Refused.{BookCheck, ClaimsCheck}
use Rattle.std.specs.Prelude.{ℕ, Err, Ok}
use Rattle.records.specs.Refusal.{refusal_number}

-- 0 for acceptance, or the refusal's number; its place; and the piece count, 0 where the book is refused
abbrev pub book_number : BookCheck → ℕ
book_number (Ok n) = 0
book_number (Err r) = refusal_number r.refusal

abbrev pub book_place : BookCheck → ℕ
book_place (Ok n) = 0
book_place (Err r) = r.place

abbrev pub book_pieces : BookCheck → ℕ
book_pieces (Ok n) = n
book_pieces (Err r) = 0

abbrev pub claims_number : ClaimsCheck → ℕ
claims_number (Ok _) = 0
claims_number (Err r) = refusal_number r.refusal

abbrev pub claims_place : ClaimsCheck → ℕ
claims_place (Ok _) = 0
claims_place (Err r) = r.place
