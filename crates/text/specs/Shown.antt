-- A book, or a list of claims, as text. Assumes nothing.
use Rattle.std.specs.Prelude.{ℕ, ◌*◌, ◌≤◌, ◌<◌, ◌≡◌, List, [], ◌∷◌, ◌++◌, Option, Some, eqb, length, get_or}
use Rattle.records.specs.declared.Record.{Record}
use Rattle.records.specs.Record.{record_at, records}
use Rattle.pages.specs.Written.{Page}
use Rattle.pages.specs.Text.{ascii, line}
use Rattle.pages.specs.Decimal.{decimal}
use Rattle.text.specs.Tests.{if_true}
use Rattle.text.specs.Names.{kind_names, void_name}
use Rattle.pages.specs.Lines.{lines}

-- the word of a kind; none for a number that is no kind
unfoldable pub kind_word : ℕ → List ℕ
kind_word k = if_true (eqb k 6) void_name (get_or ([] ∷ kind_names) k [])

-- a and b, or a alone of VOID
abbrev pub number_fields : Record → List (List ℕ)
number_fields r = if_true (eqb r.kind 6) (decimal r.a ∷ []) (decimal r.a ∷ decimal r.b ∷ [])

-- the word for byte 1 where that is 1, and none where it is not
abbrev pub choice_fields : List ℕ → ℕ → List (List ℕ)
choice_fields choice x = if_true (eqb x 1) (choice ∷ []) []

unfoldable pub show_record : (choice : List ℕ) → Record → List ℕ
show_record choice r = line (kind_word r.kind ∷ number_fields r ++ choice_fields choice r.origin)

unfoldable pub show_records : (choice : List ℕ) → List ℕ → List ℕ
show_records choice s = lines (λ i. show_record choice (record_at s i)) (records s)

-- byte 1 of a record is its origin, and of a claim the facts that it is answered from
abbrev pub show_book : List ℕ → List ℕ
show_book s = show_records (ascii "scanner") s

abbrev pub show_claims : List ℕ → List ℕ
show_claims s = show_records (ascii "sheets") s

-- 28 bytes a record always serve
abbrev pub ShownLength : Type 0
ShownLength = (s : List ℕ) → ((k : ℕ) → get_or s k 0 < 256) → (length (show_book s) ≤ 28 * records s) × (length (show_claims s) ≤ 28 * records s)

-- so a page of that length has the text
abbrev pub Served : List ℕ → List ℕ → Type 0
Served s text =
    (page page' : List ℕ) (r : Option ℕ) → ((k : ℕ) → get_or s k 0 < 256) → 28 * records s ≤ length page → Page page text page' r → r ≡ Some (length text)

abbrev pub AlwaysServed : Type 0
AlwaysServed = (s : List ℕ) → Served s (show_book s) × Served s (show_claims s)
