-- The numbers of the refusals, one for each row of document 01's table but 2, which R-1 took away, and for those of later requests, and what one row
-- says.
-- Assumes nothing.
use Rattle.records.specs.Refused.{Finding}
use Rattle.std.specs.Prelude.{ℕ, zero, suc, Bool, true, false, Err, Ok}
use Rattle.records.specs.declared.Refusal.{Refusal}
use Rattle.records.specs.declared.Refusal.TheVariants.{ShortBuffer, BookLength, TooManyRecords, Kind, Origin, PieceNumber, Order, Repeat, ClaimsLength, TooManyClaims, ClaimFormat, ClaimPiece, Contradiction, ShortSteps, TooManyPieces, ShortCatalog, NotStanding, VoidForm, LogLength, ReplicatePiece}

abbrev pub refusal_number : Refusal → ℕ
refusal_number ShortBuffer = 1
refusal_number BookLength = 3
refusal_number TooManyRecords = 4
refusal_number Kind = 5
refusal_number Origin = 6
refusal_number PieceNumber = 7
refusal_number Order = 8
refusal_number Repeat = 9
refusal_number ClaimsLength = 10
refusal_number TooManyClaims = 11
refusal_number ClaimFormat = 12
refusal_number ClaimPiece = 13
refusal_number Contradiction = 14
refusal_number ShortSteps = 15
refusal_number TooManyPieces = 16
refusal_number ShortCatalog = 17
refusal_number NotStanding = 18
refusal_number VoidForm = 19
refusal_number LogLength = 20
refusal_number ReplicatePiece = 21

-- a row that refuses, or the rows below it
abbrev pub row : Bool → Refusal → Finding → Finding
row true r below = Err r
row false r below = below

-- what a finding leads to
abbrev pub judge : {A : Type 0} → (Refusal → A) → A → Finding → A
judge refused rest (Ok _) = rest
judge refused rest (Err r) = refused r

-- n places from i on, in order: the first refusal found, with its place, or else the acceptance
unfoldable pub scan : {A : Type 0} → (Refusal → ℕ → A) → A → (ℕ → Finding) → ℕ → ℕ → A
scan refused accepted find i zero = accepted
scan refused accepted find i (suc n) = judge (λ r. refused r i) (scan refused accepted find (suc i) n) (find i)
