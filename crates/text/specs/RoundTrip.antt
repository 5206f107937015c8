-- Reading the text of a book, or of claims, gives back its bytes. Assumes nothing.
use Rattle.std.specs.Prelude.{ℕ, ◌%◌, ◌≤◌, ◌<◌, ◌≡◌, Bool, true, ◌&&◌, List, leb, eqb, length, get_or, Ok}
use Rattle.records.specs.declared.Record.{Record}
use Rattle.records.specs.Record.{record_at, records}
use Rattle.records.specs.Pieces.{stated}
use Rattle.records.specs.Check.{book_check, claims_check}
use Rattle.text.specs.Tests.{if_true}
use Rattle.text.specs.declared.Form.TheVariants.{Records, Claims}
use Rattle.text.specs.Text.{Entries, read_text}
use Rattle.text.specs.Either.{read_either}
use Rattle.text.specs.Shown.{show_book, show_claims}

-- kinds 1 to 4, or VOID with b 0; origin 0 or 1
unfoldable pub book_text : Record → Bool
book_text r = if_true (eqb r.kind 6) (eqb r.b 0) (stated r) && leb r.origin 1

-- kinds 1 to 4; all facts or those of cutting sheets
unfoldable pub claim_text : Record → Bool
claim_text r = stated r && leb r.origin 1

-- whole records of bytes, each of which has a text
pub record Shows (has : Record → Bool) (s : List ℕ) : Type 0 where
  pub bytes : (k : ℕ) → get_or s k 0 < 256
  pub whole : length s % 6 ≡ 0
  pub each : (i : ℕ) → i < records s → has (record_at s i) ≡ true

abbrev pub RoundTrip : Type 0
RoundTrip = (s : List ℕ) → Shows book_text s → records s ≤ 8193 → read_text Records (show_book s) ≡ Entries s

abbrev pub ClaimsRoundTrip : Type 0
ClaimsRoundTrip = (s : List ℕ) → Shows claim_text s → records s ≤ 4097 → read_text Claims (show_claims s) ≡ Entries s

-- so for every book that its rows let pass, and every list of claims
abbrev pub AcceptedRoundTrip : Type 0
AcceptedRoundTrip =
    (s : List ℕ) (pieces : ℕ) → ((k : ℕ) → get_or s k 0 < 256) → book_check s ≡ Ok pieces → read_text Records (show_book s) ≡ Entries s

abbrev pub AcceptedClaimsRoundTrip : Type 0
AcceptedClaimsRoundTrip =
    (s : List ℕ) (pieces : ℕ) → ((k : ℕ) → get_or s k 0 < 256) → claims_check pieces s ≡ Ok tt → read_text Claims (show_claims s) ≡ Entries s

-- and these are the same in either form
abbrev pub SameInEither : Type 0
SameInEither =
    (s : List ℕ) (pieces : ℕ) → ((k : ℕ) → get_or s k 0 < 256) → book_check s ≡ Ok pieces
    → (read_either Records s ≡ Entries s) × (read_either Records (show_book s) ≡ Entries s)

abbrev pub ClaimsSameInEither : Type 0
ClaimsSameInEither =
    (s : List ℕ) (pieces : ℕ) → ((k : ℕ) → get_or s k 0 < 256) → claims_check pieces s ≡ Ok tt
    → (read_either Claims s ≡ Entries s) × (read_either Claims (show_claims s) ≡ Entries s)
