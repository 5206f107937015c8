-- The one line of what cannot be read, and of whom it is said. Assumes nothing.
use Rattle.std.specs.Prelude.{ℕ, Bool, true, false, ◌&&◌, ◌||◌, List, [], ◌∷◌, ◌++◌, eqb, ltb}
use Rattle.pages.specs.Text.{ascii, line}
use Rattle.pages.specs.Decimal.{decimal}
use Rattle.pages.specs.Entry.{entry}
use Rattle.text.specs.Reason.{reason_number}
use Rattle.sentences.specs.declared.Whom.{Whom}
use Rattle.sentences.specs.declared.Whom.TheVariants.{Book, Second, Claims, Log, Words, ClaimWords}
use Rattle.sentences.specs.declared.Cause.{Cause}
use Rattle.sentences.specs.declared.Cause.TheVariants.{Text, NotRecords, WordsTooLong}

-- words are a record or a number, and claim words a claim
abbrev pub whom_number : Whom → ℕ
whom_number Book = 0
whom_number Second = 1
whom_number Claims = 2
whom_number Log = 3
whom_number Words = 4
whom_number ClaimWords = 5

abbrev pub prefixes : List ℕ
prefixes = ascii "\nSECOND \nCLAIMS \nLOG \nWORDS \nWORDS \n"

unfoldable pub prefix : ℕ → List ℕ
prefix source = entry source prefixes

abbrev pub cause_number : Cause → ℕ
cause_number (Text reason) = reason_number reason
cause_number NotRecords = 6
cause_number WordsTooLong = 7

-- 1 to 5 are the reasons of a text; 6 is a text where records are wanted, 7 words that are too long, 8 reason 3 of a claim
abbrev pub reasons : List ℕ
reasons =
    ascii "\n"
    ++ ascii "not a kind\n"
    ++ ascii "a number from 0 to 65535 is missing\n"
    ++ ascii "not an origin: sheet or scanner\n"
    ++ ascii "a word too many\n"
    ++ ascii "longer than 524288 bytes\n"
    ++ ascii "a book of records is wanted: pack it, or edit the text\n"
    ++ ascii "longer than 4095 bytes\n"
    ++ ascii "not a choice of facts: all or sheets\n"

abbrev pub worded : Bool → ℕ → ℕ
worded true reason = 8
worded false reason = reason

-- claims have a choice of facts where records have an origin
unfoldable pub wording : (source reason : ℕ) → ℕ
wording source reason = worded (eqb reason 3 && (eqb source 2 || eqb source 5)) reason

unfoldable pub reason_of : (source reason : ℕ) → List ℕ
reason_of source reason = entry (wording source reason) reasons

-- words have no line
abbrev pub lined : Bool → ℕ → List (List ℕ)
lined true l = ascii "line" ∷ decimal l ∷ []
lined false l = []

unfoldable pub unread_line : (source l reason : ℕ) → List ℕ
unread_line source l reason = prefix source ++ line (ascii "UNREAD" ∷ (lined (ltb source 4) l ++ (reason_of source reason ∷ [])))
