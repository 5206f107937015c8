-- What a reading into lent bytes comes to, and what it leaves there. Assumes nothing.
use Rattle.std.specs.Prelude.{ℕ, List, Result, Ok, Err, ltb, length}
use Rattle.lists.specs.Front.{front}
use Rattle.text.specs.Tests.{if_true}
use Rattle.text.specs.declared.Form.{Form}
use Rattle.text.specs.declared.reading.Unread.{Unread}
use Rattle.text.specs.declared.reading.Unread.TheVariants.{BadLine, ShortBuffer}
use Rattle.text.specs.Text.{Reading, Entries, Broken, bytes_most}

abbrev pub answer_of : Reading → Result ℕ Unread
answer_of (Entries bytes) = Ok (length bytes)
answer_of (Broken line reason bytes) = Err (BadLine line reason)

abbrev pub entries_of : Reading → List ℕ
entries_of (Entries bytes) = bytes
entries_of (Broken line reason bytes) = bytes

-- nothing is read where fewer bytes are lent than the entries of such a text can have
unfoldable pub into : Form → (lent : ℕ) → Reading → Result ℕ Unread
into form lent x = if_true (ltb lent (bytes_most form)) (Err ShortBuffer) (answer_of x)

-- the entries stand at the front, and the bytes behind them are as they were
unfoldable pub leaves : Form → Reading → (out : List ℕ) → List ℕ
leaves form x out = if_true (ltb (length out) (bytes_most form)) out (front (entries_of x) out)
