-- What the words order, whatever is made of them and of the book. Assumes nothing.
use Rattle.std.specs.Prelude.{ℕ, ◌≤◌, ◌≡◌, List, Result, Ok, Err, length, take}
use Rattle.records.specs.declared.Record.{Record}
use Rattle.text.specs.declared.Form.{Form}
use Rattle.text.specs.Rooms.{BOOK-ROOM}
use Rattle.sentences.specs.Unread.{whom_number, cause_number, unread_line}
use Rattle.sentences.specs.Arguments.{words_of}
use Rattle.change_pages.specs.declared.Order.{Order}
use Rattle.change_pages.specs.declared.NoOrder.{NoOrder}
use Rattle.change_pages.specs.Change.{Change, Kept}
use Rattle.change_pages.specs.Changes.{if_record, of_records}

-- the change that is made by the words and a book of records
abbrev pub edited : Form → (source words : List ℕ) → (Record → List ℕ → Change) → Change
edited form source words make = if_record (words_of form words) (λ r. of_records source (make r))

abbrev pub Ordered : Form → (source words : List ℕ) → Result Order NoOrder → Type 0
Ordered form source words (Ok o) =
    (o.length ≤ length source) × (o.length ≤ BOOK-ROOM) × ((make : Record → List ℕ → Change) → make o.entry (take o.length source) ≡ edited form source words make)
Ordered form source words (Err w) =
    (make : Record → List ℕ → Change) → Kept (unread_line (whom_number w.whom) 0 (cause_number w.cause)) ≡ edited form source words make
