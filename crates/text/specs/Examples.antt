-- Texts and what they are read into. Assumes nothing.
use Rattle.std.specs.Prelude.{ℕ, ◌<◌, ◌≡◌, true, false, List, [], ◌∷◌, ◌++◌, Some, Ok, length}
use Rattle.pages.specs.Text.{ascii}
use Rattle.text.specs.declared.Form.{Form}
use Rattle.text.specs.declared.Form.TheVariants.{Records, Claims, Log}
use Rattle.text.specs.declared.Reason.{Reason}
use Rattle.text.specs.declared.Reason.TheVariants.{NotKind, NotNumber, NotChoice, WordTooMany, TooLong}
use Rattle.text.specs.Line.{line_of, entry}
use Rattle.text.specs.Text.{Entries, Broken, read_lines, read_text, lines_of}
use Rattle.text.specs.Either.{is_text, read_either}
use Rattle.text.specs.Place.{place_line}
use Rattle.text.specs.Shown.{show_book, show_claims}

-- lines, each with its end
abbrev pub below : List (List ℕ) → List ℕ
below [] = []
below (l ∷ ls) = l ++ (10 ∷ below ls)

-- a bad line behind a comment
abbrev pub refuses : Form → List ℕ → Reason → Type 0
refuses form l reason = read_text form (below (ascii "# one" ∷ l ∷ [])) ≡ Broken 2 reason []

-- three lines with words, comments, blanks of all sorts, an empty line, and no last line end
abbrev pub mixed : List ℕ
mixed = below (ascii "PART 1 2" ∷ ascii "  # nothing" ∷ [] ∷ ascii "VOID 007 scanner#x" ∷ []) ++ (9 ∷ ascii "MEETS 300 65535  sheet ")

pub record Reads : Type 0 where
  pub records : read_text Records mixed ≡ Entries (1 ∷ 0 ∷ 1 ∷ 0 ∷ 2 ∷ 0 ∷ 6 ∷ 1 ∷ 7 ∷ 0 ∷ 0 ∷ 0 ∷ 3 ∷ 0 ∷ 44 ∷ 1 ∷ 255 ∷ 255 ∷ [])
  pub claims : read_text Claims (below (ascii "NOTPART 5 2 sheets" ∷ ascii "APART 0 1 all" ∷ [])) ≡ Entries (4 ∷ 1 ∷ 5 ∷ 0 ∷ 2 ∷ 0 ∷ 2 ∷ 0 ∷ 0 ∷ 0 ∷ 1 ∷ 0 ∷ [])
  pub log : read_text Log (below (ascii "7" ∷ ascii "300 # again" ∷ [])) ≡ Entries (7 ∷ 0 ∷ 44 ∷ 1 ∷ [])
  pub empty : read_text Records [] ≡ Entries []
  pub small : read_text Records (ascii "part 1 2 Scanner") ≡ Entries (1 ∷ 1 ∷ 1 ∷ 0 ∷ 2 ∷ 0 ∷ [])
  pub either-case : read_text Claims (ascii "NotPart 1 2 SHEETS") ≡ Entries (4 ∷ 1 ∷ 1 ∷ 0 ∷ 2 ∷ 0 ∷ [])
  pub mark : read_text Records (239 ∷ 187 ∷ 191 ∷ ascii "VOID 1") ≡ Entries (6 ∷ 0 ∷ 1 ∷ 0 ∷ 0 ∷ 0 ∷ [])
  pub mark-later : read_text Records (10 ∷ 239 ∷ 187 ∷ 191 ∷ ascii "VOID 1") ≡ Broken 2 NotKind []
  pub carriage : read_text Records (ascii "VOID 1" ++ (13 ∷ 10 ∷ ascii "VOID 2" ++ (13 ∷ 10 ∷ []))) ≡ Entries (6 ∷ 0 ∷ 1 ∷ 0 ∷ 0 ∷ 0 ∷ 6 ∷ 0 ∷ 2 ∷ 0 ∷ 0 ∷ 0 ∷ [])
  pub tabs : read_text Log (9 ∷ 49 ∷ 9 ∷ 10 ∷ []) ≡ Entries (1 ∷ 0 ∷ [])
  -- reading stops behind the last entry that is asked for, whatever comes then
  pub stops : read_lines Log 1 1 [] (lines_of (below (ascii "7" ∷ ascii "?" ∷ []))) ≡ Entries (7 ∷ 0 ∷ [])

pub record Refuses : Type 0 where
  pub no_kind : refuses Records (ascii "PARTS 1 2") NotKind
  pub no-claim : refuses Claims (ascii "VOID 1") NotKind
  pub no_number : refuses Records (ascii "PART 1") NotNumber
  pub too_large : refuses Records (ascii "PART 65536 2") NotNumber
  pub no_digit : refuses Records (ascii "PART 1 2x sheet") NotNumber
  pub no-entry : refuses Log (ascii "x") NotNumber
  pub no_origin : refuses Records (ascii "VOID 1 0") NotChoice
  pub origin-first : refuses Records (ascii "PART 1 2 3 scanner") NotChoice
  pub no-facts : refuses Claims (ascii "PART 1 2 sheet") NotChoice
  pub too_many : refuses Records (ascii "PART 1 2 sheet 3") WordTooMany
  pub two-numbers : refuses Log (ascii "1 2") WordTooMany
  pub too_long : (form : Form) (text : List ℕ) → 524288 < length text → read_text form text ≡ Broken 0 TooLong []
  -- the entries before a bad line are there
  pub before : read_text Records (below (ascii "VOID 1" ∷ ascii "?" ∷ [])) ≡ Broken 2 NotKind (6 ∷ 0 ∷ 1 ∷ 0 ∷ 0 ∷ 0 ∷ [])

pub record Others : Type 0 where
  -- words that are joined: byte 10 among them is a blank
  pub joined : line_of Claims (ascii "Meets 3" ++ (10 ∷ ascii "4 all")) ≡ Ok (Some (entry 3 0 3 4))
  pub one_number : line_of Log (ascii "2047") ≡ Ok (Some (entry 0 0 2047 0))
  pub second-line : place_line mixed 1 ≡ 4
  pub last_line : place_line mixed 2 ≡ 5
  pub no_line : place_line mixed 3 ≡ 0
  pub text : is_text (ascii "PART 1 2") ≡ true
  pub bytes : is_text (1 ∷ 0 ∷ 1 ∷ 0 ∷ 2 ∷ 0 ∷ []) ≡ false
  pub neither : read_either Records [] ≡ Entries []
  pub shown : show_book (4 ∷ 1 ∷ 44 ∷ 1 ∷ 2 ∷ 0 ∷ 6 ∷ 0 ∷ 7 ∷ 0 ∷ 0 ∷ 0 ∷ []) ≡ below (ascii "NOTPART 300 2 scanner" ∷ ascii "VOID 7" ∷ [])
  pub asked : show_claims (1 ∷ 1 ∷ 5 ∷ 0 ∷ 2 ∷ 0 ∷ 2 ∷ 0 ∷ 0 ∷ 0 ∷ 1 ∷ 0 ∷ []) ≡ below (ascii "PART 5 2 sheets" ∷ ascii "APART 0 1" ∷ [])
