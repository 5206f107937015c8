-- The texts of `check` and `ask`: the counts' line and the line of each claim, as document 01's session has them; or the line of the refusal, or of
-- what cannot be read. Assumes nothing.
use Rattle.outcomes.specs.Accepted.{Outcome}
use Rattle.std.specs.Prelude.{ℕ, List, [], ◌++◌, Err, Ok}
use Rattle.records.specs.Record.{records}
use Rattle.outcomes.specs.Call.{outcome, left}
use Rattle.text.specs.declared.Form.TheVariants.{Claims}
use Rattle.text.specs.Entry.{six_bytes}
use Rattle.sentences.specs.Refusals.{refused}
use Rattle.sentences.specs.Sources.{of_book, of_claims}
use Rattle.sentences.specs.Arguments.{of_words}
use Rattle.report.specs.Session.{claim_lines, counts_line}
use Rattle.report.specs.Page.{zeros}

-- of an outcome and answers, where the book was read from a source and the claims from another
unfoldable pub text_of : (claims source other : List ℕ) → Outcome → (answers : List ℕ) → List ℕ
text_of claims source other (Ok n) answers = counts_line n.pieces n.nodes n.shadows ++ claim_lines claims answers (records claims)
text_of claims source other (Err r) answers = refused r.refusal r.place source other

-- of the call's outcome and of the answers that it leaves
unfoldable pub session_text : (book claims source other : List ℕ) → List ℕ
session_text book claims source other =
    text_of claims source other (outcome book claims zeros) (left book claims zeros (outcome book claims zeros)).answers

-- `check` is a session without claims
unfoldable pub check_text : (source : List ℕ) → List ℕ
check_text source = of_book source (λ book. session_text book [] source [])

-- the claims of another source
unfoldable pub ask_text : (source claims : List ℕ) → List ℕ
ask_text source claims = of_book source (λ book. of_claims claims (λ asked. session_text book asked source claims))

-- the one claim of the arguments, which has no line
unfoldable pub ask_words_text : (source words : List ℕ) → List ℕ
ask_words_text source words = of_words Claims words (λ claim. of_book source (λ book. session_text book (six_bytes claim) source []))
