-- The text of `grid`: the piece count, a heading of the columns, then a line a piece with a sign for each piece. Assumes nothing.
use Rattle.outcomes.specs.Accepted.{Outcome}
use Rattle.std.specs.Prelude.{ℕ, ◌+◌, ◌/◌, ◌%◌, Bool, true, false, List, [], ◌∷◌, ◌++◌, ltb, Err, Ok}
use Rattle.rules.specs.Fact.{Fact}
use Rattle.rules.specs.Follows.{follows}
use Rattle.records.specs.Facts.{facts}
use Rattle.records.specs.Marked.{marked}
use Rattle.grids.specs.Gridded.{grid_outcome}
use Rattle.pages.specs.Text.{ascii, field, line}
use Rattle.pages.specs.Decimal.{decimal}
use Rattle.pages.specs.Lines.{lines}
use Rattle.sentences.specs.Refusals.{refused}
use Rattle.sentences.specs.Sources.{of_book}
use Rattle.book_pages.specs.Sign.{pick, sign}

-- the two columns of a number below 100: its tens, a space below 10, and its ones
unfoldable pub tens : ℕ → ℕ
tens b = pick (ltb b 10) 32 (48 + b / 10 % 10)

unfoldable pub ones : ℕ → ℕ
ones b = 48 + b % 10

unfoldable pub digit : Bool → ℕ → ℕ
digit upper b = pick upper (tens b) (ones b)

-- a line of the heading: of the tens, or of the ones
unfoldable pub columns : Bool → ℕ → List ℕ
columns upper n = lines (λ b. digit upper b ∷ []) n

unfoldable pub heading : Bool → ℕ → List ℕ
heading upper n = ascii "   " ++ field (columns upper n) 10

-- the tens stand before it where some piece has them
unfoldable pub headings : ℕ → List ℕ
headings n = pick (ltb 10 n) (heading true n) [] ++ heading false n

-- the signs of piece a, where D says which facts follow
unfoldable pub signs : (Fact → Bool) → ℕ → ℕ → List ℕ
signs D a n = lines (λ b. sign D a b ∷ []) n

unfoldable pub row : (Fact → Bool) → ℕ → ℕ → List ℕ
row D n a = (tens a ∷ []) ++ (field (ones a ∷ []) 32 ++ field (signs D a n) 10)

unfoldable pub rows : (Fact → Bool) → ℕ → ℕ → List ℕ
rows D n m = lines (row D n) m

unfoldable pub grid_lines : (Fact → Bool) → ℕ → List ℕ
grid_lines D n = line (ascii "PIECES" ∷ decimal n ∷ []) ++ (headings n ++ rows D n n)

-- of what the grid call comes to, where the book was read from a source
unfoldable pub text_of : (book source : List ℕ) → Outcome → List ℕ
text_of book source (Ok n) = grid_lines (follows (marked book) n.pieces (facts book)) n.pieces
text_of book source (Err r) = refused r.refusal r.place source []

unfoldable pub sheet_text : (book source : List ℕ) → List ℕ
sheet_text book source = text_of book source (grid_outcome book)

unfoldable pub grid_text : (source : List ℕ) → List ℕ
grid_text source = of_book source (λ book. sheet_text book source)
