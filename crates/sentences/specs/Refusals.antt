-- The one line of a refusal, with its sentence and, where its place was read from a text, the text's line. Assumes nothing.
use Rattle.std.specs.Prelude.{ℕ, zero, suc, Bool, true, false, List, [], ◌∷◌, ◌++◌, eqb, get_or}
use Rattle.text.specs.Place.{line_in}
use Rattle.records.specs.Refusal.{refusal_number}
use Rattle.records.specs.declared.Refusal.{Refusal}
use Rattle.pages.specs.Text.{ascii, line}
use Rattle.pages.specs.Decimal.{decimal}
use Rattle.pages.specs.Entry.{entry}

-- refusals 1 to 21; 2 is gone
abbrev pub sentences : List ℕ
sentences =
    ascii "\n"
    ++ ascii "a lent buffer is too short\n"
    ++ ascii "\n"
    ++ ascii "the book is not whole records of six bytes\n"
    ++ ascii "the book has more than 8192 records\n"
    ++ ascii "this record has no known kind\n"
    ++ ascii "this record has no known origin\n"
    ++ ascii "this record names a piece above 2047\n"
    ++ ascii "this record names a piece before its container\n"
    ++ ascii "this record repeats an earlier one\n"
    ++ ascii "the claims are not whole claims of six bytes\n"
    ++ ascii "there are more than 4096 claims\n"
    ++ ascii "this claim has no known kind or choice of facts\n"
    ++ ascii "the book has no piece of that number\n"
    ++ ascii "the records up to this one contradict each other\n"
    ++ ascii "there is too little room for the steps\n"
    ++ ascii "a grid has at most 64 pieces\n"
    ++ ascii "there is too little room for the lists\n"
    ++ ascii "there is no record of that number\n"
    ++ ascii "this VOID record names a second piece, or piece 0\n"
    ++ ascii "the log is not whole entries of two bytes, or has more than 32768\n"
    ++ ascii "this entry names a piece that the book does not have\n"

unfoldable pub sentence : ℕ → List ℕ
sentence n = entry n sentences

-- where a text was read: its line, counted from 1; 0 says nothing
abbrev pub located : ℕ → List (List ℕ)
located zero = []
located (suc l) = ascii "line" ∷ decimal (suc l) ∷ []

unfoldable pub refusal_line : (number place l : ℕ) → List ℕ
refusal_line number place l = line (ascii "REFUSED" ∷ decimal number ∷ decimal place ∷ (located l ++ (sentence number ∷ [])))

-- what the place of each refusal counts: r a record of the book, c a claim or an entry of the log, - nothing
abbrev pub places : List ℕ
places = ascii "-----rrrrr--ccr----r-c"

abbrev pub line_by : (one other : Bool) (of_record of_claim : ℕ) → ℕ
line_by true other of_record of_claim = of_record
line_by false true of_record of_claim = of_claim
line_by false false of_record of_claim = 0

-- the line of the place in the source that it counts: of the book, or of the claims or the log. Records have no lines, and no bytes have none
unfoldable pub line_of : (number place : ℕ) (book other : List ℕ) → ℕ
line_of number place book other = line_by (eqb (get_or places number 0) 114) (eqb (get_or places number 0) 99) (line_in book place) (line_in other place)

-- the line of a refusal at a place, with the line of its source
unfoldable pub refused : Refusal → (place : ℕ) (book other : List ℕ) → List ℕ
refused r place book other = refusal_line (refusal_number r) place (line_of (refusal_number r) place book other)
