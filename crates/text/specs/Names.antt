-- The words that are no numbers, in letters of either case. Assumes nothing.
use Rattle.std.specs.Prelude.{ℕ, suc, ◌+◌, Bool, true, false, ◌&&◌, Option, Some, None, List, [], ◌∷◌, eqb, leb}
use Rattle.std.specs.Option.{option_or}
use Rattle.pages.specs.Text.{ascii}
use Rattle.text.specs.Tests.{if_true}
use Rattle.text.specs.declared.Form.{Form}
use Rattle.text.specs.declared.Form.TheVariants.{Records, Claims, Log}

-- a capital letter, 65 to 90, counts as the small one
unfoldable pub lower : ℕ → ℕ
lower x = if_true (leb 65 x && leb x 90) (x + 32) x

unfoldable pub same : List ℕ → List ℕ → Bool
same [] [] = true
same [] (y ∷ ys) = false
same (x ∷ xs) [] = false
same (x ∷ xs) (y ∷ ys) = eqb (lower x) (lower y) && same xs ys

-- the names of kinds 1 to 4, and of 6
abbrev pub kind_names : List (List ℕ)
kind_names = ascii "PART" ∷ ascii "APART" ∷ ascii "MEETS" ∷ ascii "NOTPART" ∷ []

abbrev pub void_name : List ℕ
void_name = ascii "VOID"

-- the place of a word among names, counted from k on; none where it is none of them
unfoldable pub place : ℕ → List (List ℕ) → List ℕ → Option ℕ
place k [] w = None
place k (n ∷ ns) w = elim (same w n) [ true ↦ Some k | false ↦ place (suc k) ns w ]

-- the kind of a word: no claim is VOID, and a log has no kinds
unfoldable pub kind_of : Form → List ℕ → Option ℕ
kind_of Records w = option_or (place 1 kind_names w) (place 6 (void_name ∷ []) w)
kind_of Claims w = place 1 kind_names w
kind_of Log w = None

-- the choice that a word is: the origin of a record, the facts that a claim is answered from
unfoldable pub choice_of : Form → List ℕ → Option ℕ
choice_of Records w = place 0 (ascii "sheet" ∷ ascii "scanner" ∷ []) w
choice_of Claims w = place 0 (ascii "all" ∷ ascii "sheets" ∷ []) w
choice_of Log w = None
