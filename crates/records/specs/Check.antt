-- The checks of a book and of a list of claims: from top to bottom, record by record, the rows in order within one.
-- Assumes nothing.
use Rattle.records.specs.Refused.{BookCheck, Claim, ClaimsCheck, Finding, refused_at}
use Rattle.std.specs.Prelude.{ℕ, Bool, true, false, List, Err, None, Ok, Some}
use Rattle.records.specs.declared.Record.{Record}
use Rattle.records.specs.declared.Edition.{Edition}
use Rattle.records.specs.declared.Edition.TheVariants.{Former, Current}
use Rattle.records.specs.declared.Refusal.TheVariants.{BookLength, TooManyRecords, Kind, Origin, PieceNumber, VoidForm, Order, Repeat, ClaimsLength, TooManyClaims, ClaimFormat, ClaimPiece}
use Rattle.records.specs.Record.{record_at, records}
use Rattle.records.specs.Refusal.{row, judge, scan}
use Rattle.records.specs.Pieces.{pieces_up_to}
use Rattle.records.specs.Rows.{ragged, more_than, kind_row, origin_row, piece_row, void_row, order_row, repeat_row, claim_row, beyond_row}

-- rows 3 and 4
abbrev pub book_length : List ℕ → Finding
book_length s = row (ragged s) BookLength (row (more_than 8192 s) TooManyRecords (Ok tt))

-- rows 5 to 7, 19 and 8, which look at one record alone
unfoldable pub form_finding : Edition → Record → Finding
form_finding e r = row (kind_row e r) Kind (row (origin_row r) Origin (row (piece_row r) PieceNumber (row (void_row r) VoidForm (row (order_row e r) Order (Ok tt)))))

-- rows 5 to 9 of record i, 19 among them
unfoldable pub record_finding : Edition → List ℕ → ℕ → Finding
record_finding e s i = judge Err (row (repeat_row s i) Repeat (Ok tt)) (form_finding e (record_at s i))

-- rows 5 to 9 of the first n records: the first refusal and its place, or the piece count
abbrev pub records_check : Edition → List ℕ → ℕ → BookCheck
records_check e s n = scan refused_at (Ok (pieces_up_to s n)) (record_finding e s) 0 n

-- rows 3 to 9 of a book, by an edition: that in force, or the one that the converter takes
unfoldable pub check_by : Edition → List ℕ → BookCheck
check_by e s = judge (λ r. refused_at r 0) (records_check e s (records s)) (book_length s)

abbrev pub book_check : List ℕ → BookCheck
book_check s = check_by Current s

abbrev pub former_check : List ℕ → BookCheck
former_check s = check_by Former s

-- claim i as it is read: by row 12
abbrev pub read : Bool → Record → Claim
read true r = None
read false r = Some r

unfoldable pub claim_at : List ℕ → ℕ → Claim
claim_at s i = read (claim_row (record_at s i)) (record_at s i)

-- rows 12 and 13 of claim i
abbrev pub claim_finding : ℕ → Claim → Finding
claim_finding pieces None = Err ClaimFormat
claim_finding pieces (Some r) = row (beyond_row pieces r) ClaimPiece (Ok tt)

-- rows 10 and 11
abbrev pub claims_length : List ℕ → Finding
claims_length s = row (ragged s) ClaimsLength (row (more_than 4096 s) TooManyClaims (Ok tt))

-- rows 10 to 13, for a book of so many pieces
unfoldable pub claims_check : ℕ → List ℕ → ClaimsCheck
claims_check pieces s =
    judge (λ r. refused_at r 0)
    (scan refused_at (Ok tt) (λ i. claim_finding pieces (claim_at s i)) 0 (records s))
    (claims_length s)
