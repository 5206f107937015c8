-- The text of `inside`, `touching` and `apart`: how many pieces, then one number a line. Assumes nothing.
use Rattle.catalog.specs.Listing.{Listing}
use Rattle.std.specs.Prelude.{ℕ, List, [], ◌∷◌, ◌++◌, length, get_or, replicate, Err, Ok}
use Rattle.catalog.specs.Lent.{Lent, lent}
use Rattle.catalog.specs.Call.{list_of, outcome}
use Rattle.pages.specs.Text.{ascii, field, line}
use Rattle.pages.specs.Decimal.{decimal}
use Rattle.pages.specs.Lines.{lines}
use Rattle.text.specs.declared.Form.TheVariants.{Log}
use Rattle.sentences.specs.Refusals.{refused}
use Rattle.sentences.specs.Sources.{of_book}
use Rattle.sentences.specs.Arguments.{of_words}

-- the first n numbers of a list, one a line
unfoldable pub number_lines : List ℕ → ℕ → List ℕ
number_lines l n = lines (λ i. field (decimal (get_or l i 0)) 10) n

unfoldable pub list_lines : List ℕ → List ℕ
list_lines l = line (ascii "PIECES" ∷ decimal (length l) ∷ []) ++ number_lines l (length l)

-- the buffers that are lent to the catalog
unfoldable pub zeros : Lent
zeros = lent (replicate 2560 0) (replicate 1280 0) (replicate 8192 0) (replicate 2048 0) (replicate 2048 0) (replicate 16384 0) (replicate 16384 0) (replicate 16384 0)

-- of what a catalog for kind k and piece g comes to, where the book was read from a source
unfoldable pub text_of : (book source : List ℕ) → ℕ → ℕ → Listing → List ℕ
text_of book source k g (Ok c) = list_lines (list_of book c.pieces k g)
text_of book source k g (Err r) = refused r.refusal r.place source []

unfoldable pub catalog_text : (book source : List ℕ) → ℕ → ℕ → List ℕ
catalog_text book source k g = text_of book source k g (outcome book k g zeros)

-- the piece is the one number of the arguments
unfoldable pub list_text : (source : List ℕ) → (k : ℕ) → (words : List ℕ) → List ℕ
list_text source k words = of_words Log words (λ number. of_book source (λ book. catalog_text book source k number.a))
