-- The text of `show`: the book as text, `# no records` of an empty one; or the line of a refusal by rows 3 to 9 or 19. Assumes nothing.
use Rattle.records.specs.Refused.{BookCheck}
use Rattle.std.specs.Prelude.{ℕ, List, [], eqb, length, Err, Ok}
use Rattle.records.specs.Check.{book_check}
use Rattle.text.specs.Tests.{if_true}
use Rattle.text.specs.Shown.{show_book}
use Rattle.pages.specs.Text.{ascii}
use Rattle.sentences.specs.Refusals.{refused}
use Rattle.sentences.specs.Sources.{of_book}

unfoldable pub text_of : (book source : List ℕ) → BookCheck → List ℕ
text_of book source (Ok n) = if_true (eqb (length book) 0) (ascii "# no records\n") (show_book book)
text_of book source (Err r) = refused r.refusal r.place source []

unfoldable pub shown_text : (book source : List ℕ) → List ℕ
shown_text book source = text_of book source (book_check book)

unfoldable pub show_text : (source : List ℕ) → List ℕ
show_text source = of_book source (λ book. shown_text book source)
