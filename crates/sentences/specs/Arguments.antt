-- The words of the arguments, joined by one space, which are read as one line; or the line of what cannot be read. Assumes nothing.
use Rattle.std.specs.Prelude.{List, ℕ, Some, None, Result, Ok, Err, ltb, length}
use Rattle.records.specs.declared.Record.{Record}
use Rattle.text.specs.Tests.{if_true}
use Rattle.text.specs.declared.Form.{Form}
use Rattle.text.specs.declared.Form.TheVariants.{Records, Claims, Log}
use Rattle.text.specs.declared.Reason.{Reason}
use Rattle.text.specs.declared.Reason.TheVariants.{NotKind, NotNumber}
use Rattle.text.specs.Line.{Line, line_of}
use Rattle.sentences.specs.Unread.{whom_number, cause_number, unread_line}
use Rattle.sentences.specs.declared.Whom.{Whom}
use Rattle.sentences.specs.declared.Whom.TheVariants as to
use Rattle.sentences.specs.declared.Cause.{Cause}
use Rattle.sentences.specs.declared.Cause.TheVariants.{Text, WordsTooLong}

-- the reason where there is no word: a kind is missing, or a number
abbrev pub absent : Form → Reason
absent Records = NotKind
absent Claims = NotKind
absent Log = NotNumber

abbrev pub by_line : Form → Line → Result Record Cause
by_line form (Ok None) = Err (Text (absent form))
by_line form (Ok (Some r)) = Ok r
by_line form (Err reason) = Err (Text reason)

-- longer words are not read
unfoldable pub words_of : Form → List ℕ → Result Record Cause
words_of form words = if_true (ltb 4095 (length words)) (Err WordsTooLong) (by_line form (line_of form words))

-- a claim's words have a choice of facts
abbrev pub speaker : Form → Whom
speaker Records = to.Words
speaker Claims = to.ClaimWords
speaker Log = to.Words

abbrev pub if_said : Form → Result Record Cause → (Record → List ℕ) → List ℕ
if_said form (Ok r) text = text r
if_said form (Err cause) text = unread_line (whom_number (speaker form)) 0 (cause_number cause)

unfoldable pub of_words : Form → (words : List ℕ) → (Record → List ℕ) → List ℕ
of_words form words text = if_said form (words_of form words) text
