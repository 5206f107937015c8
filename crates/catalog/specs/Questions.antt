-- The range question and the range of a subtree on what the catalog of a book leaves. Assumes nothing.
use Rattle.std.specs.Prelude.{◌≡◌, Bool, List, ℕ, ◌<◌, length, Ok}
use Rattle.lists.specs.Front.{front}
use Rattle.records.specs.Facts.{facts}
use Rattle.records.specs.Check.{book_check}
use Rattle.index.specs.Parts as on
use Rattle.groups.specs.Groups.{number, groups}
use Rattle.groups.specs.Index.{edges, book_parens}
use Rattle.areas.specs.Area.{unordered_kind, filled}
use Rattle.areas.specs.Question.{Answers, stored_between}
use Rattle.areas.specs.Subtree.{range_from, range_to, Spanned}
use Rattle.outcomes.specs.Call.{pairs_of}
use Rattle.catalog.specs.Call.{places_of, area_of}

-- with the area of kind k and its count the question is answered by the stored facts and their places
abbrev pub AnswersStored : Type 0
AnswersStored =
    (s : List ℕ) (n : ℕ) → book_check s ≡ Ok n → (k rf rt cf ct : ℕ) (old : List ℕ) (answer : Bool)
    → Answers (filled (area_of s n k) old) (length (area_of s n k)) (unordered_kind k) rf rt cf ct answer → answer ≡ stored_between (facts s) k (places_of s n) rf rt cf ct

-- with the parentheses and the place list the range of a piece is that of what hangs at or below the node of its group
abbrev pub SubtreesSpanned : Type 0
SubtreesSpanned =
    (s : List ℕ) (n : ℕ) → book_check s ≡ Ok n → (old old' : List ℕ) (h : ℕ) → h < n
    → Spanned (groups n (pairs_of s)) (edges n (pairs_of s)) (number n (pairs_of s) h)
    (range_from (front (on.packed 2560 (book_parens n (pairs_of s))) old) (front (places_of s n) old') h)
    (range_to (front (on.packed 2560 (book_parens n (pairs_of s))) old) (front (places_of s n) old') h)
