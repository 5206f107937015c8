-- The new books of `pack`, `convert`, `add` and `withdraw`, from the bytes of the file and the words. Assumes nothing.
use Rattle.records.specs.Refused.{refused_at}
use Rattle.outcomes.specs.Accepted.{Outcome}
use Rattle.std.specs.Prelude.{ℕ, ◌+◌, ◌*◌, List, [], ◌++◌, Result, Ok, Err, leb, take, drop}
use Rattle.records.specs.declared.Record.{Record}
use Rattle.records.specs.Record.{records}
use Rattle.records.specs.Refusal.{judge}
use Rattle.records.specs.Check.{book_length}
use Rattle.records.specs.declared.Refusal.TheVariants.{NotStanding}
use Rattle.outcomes.specs.Fresh.{fresh_call}
use Rattle.outcomes.specs.One.{refuse_if}
use Rattle.convert.specs.Converted.{converted}
use Rattle.convert.specs.Conversion.{conversion, Conversion}
use Rattle.text.specs.Tests.{if_true}
use Rattle.text.specs.declared.Form.TheVariants.{Records, Log}
use Rattle.text.specs.Entry.{six_bytes}
use Rattle.text.specs.Reason.{reason_number}
use Rattle.text.specs.Text.{Reading, Entries, Broken}
use Rattle.text.specs.Either.{is_text, read_either}
use Rattle.sentences.specs.Refusals.{refused}
use Rattle.sentences.specs.Unread.{cause_number, unread_line}
use Rattle.sentences.specs.Arguments.{words_of}
use Rattle.sentences.specs.declared.Cause.{Cause}
use Rattle.change_pages.specs.Change.{Change, New, Kept}

-- a run that a fresh call accepts is the new book
abbrev pub judged : (source run : List ℕ) → Outcome → Change
judged source run (Ok n) = New run
judged source run (Err r) = Kept (refused r.refusal r.place source [])

-- a source that is read, or told
abbrev pub if_read : Reading → (List ℕ → Change) → Change
if_read (Entries bytes) make = make bytes
if_read (Broken l reason bytes) make = Kept (unread_line 0 l (reason_number reason))

-- a book in either form, as records
unfoldable pub packing : (source : List ℕ) → Change
packing source = if_read (read_either Records source) (λ book. judged source book (fresh_call book []))

-- R-7, with room for every book that is read
abbrev pub by_conversion : (source book : List ℕ) → Conversion → Change
by_conversion source book (Ok k) = New (converted book)
by_conversion source book (Err r) = Kept (refused r.refusal r.place source [])

unfoldable pub converting : (source : List ℕ) → Change
converting source = if_read (read_either Records source) (λ book. by_conversion source book (conversion book 49164))

-- a book of records, of which the first 49,158 bytes are taken; text is told with reason 6
unfoldable pub of_records : (source : List ℕ) → (List ℕ → Change) → Change
of_records source make = if_true (is_text source) (Kept (unread_line 0 0 6)) (make (take 49158 source))

abbrev pub if_record : Result Record Cause → (Record → Change) → Change
if_record (Ok r) make = make r
if_record (Err cause) make = Kept (unread_line 4 0 (cause_number cause))

-- R-9: the record behind the others, judged by a fresh call
unfoldable pub adding : (source words : List ℕ) → Change
adding source words =
    if_record (words_of Records words)
    (λ r. of_records source (λ book. judged source (book ++ six_bytes r) (fresh_call (book ++ six_bytes r) [])))

-- the book without record i: later records move down by one
unfoldable pub without : (book : List ℕ) → ℕ → List ℕ
without book i = take (6 * i) book ++ drop (6 * i + 6) book

-- rows 3 and 4 of the book as it stands, 18, then a fresh call on what is left
unfoldable pub withdrawn : (book : List ℕ) → ℕ → Outcome
withdrawn book i = judge (λ r. refused_at r 0) (refuse_if (leb (records book) i) NotStanding (fresh_call (without book i) [])) (book_length book)

unfoldable pub withdrawing : (source words : List ℕ) → Change
withdrawing source words =
    if_record (words_of Log words) (λ number. of_records source (λ book. judged source (without book number.a) (withdrawn book number.a)))
