-- What the range question says of an area. Assumes nothing.
use Rattle.std.specs.Prelude.{◌≡◌, Bool, ◌&&◌, ◌||◌, List, ℕ, eqb, length, get_or}
use Rattle.lists.specs.Any.{any}
use Rattle.rules.specs.Fact.{Fact, kind, left, right}
use Rattle.lists.specs.Passing.{passing}
use Rattle.areas.specs.Area.{unordered_kind, filled}
use Rattle.areas.specs.Between.{inside, between}

-- of an area with some pairs of places, as a catalog leaves it (p says which they are), and their count: whether one of them lies in these rows and
-- columns. Of any other area or count the answer is free
abbrev pub Answers : List ℕ → ℕ → Bool → ℕ → ℕ → ℕ → ℕ → Bool → Type 0
Answers area count unordered row_from row_to column_from column_to answer =
    (p : ℕ → Bool) (old : List ℕ) → area ≡ filled (passing p 104857600) old → count ≡ length (passing p 104857600)
    → answer ≡ any (between unordered row_from row_to column_from column_to) (passing p 104857600)

-- what it comes to for a book: some stored fact of kind k has its first piece's place, by the place list ps, in these rows and its second one's in these
-- columns; in an unordered kind in either order
unfoldable pub stored_between : List Fact → ℕ → List ℕ → ℕ → ℕ → ℕ → ℕ → Bool
stored_between fs k ps row_from row_to column_from column_to =
    any (λ f. eqb (kind f) k && (inside row_from row_to column_from column_to (get_or ps (left f) 0) (get_or ps (right f) 0)
    || (unordered_kind k && inside row_from row_to column_from column_to (get_or ps (right f) 0) (get_or ps (left f) 0)))) fs
