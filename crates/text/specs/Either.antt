-- A book or a list of claims in either form: text, or records. Assumes nothing.
use Rattle.std.specs.Prelude.{ℕ, Bool, true, List, leb, take, get_or}
use Rattle.text.specs.Tests.{if_true}
use Rattle.text.specs.declared.Form.{Form}
use Rattle.text.specs.declared.Form.TheVariants.{Records, Claims, Log}
use Rattle.text.specs.Text.{Reading, Entries, bytes_most, read_text}

-- text where the first byte is 9 or more. No bytes are no records
unfoldable pub is_text : List ℕ → Bool
is_text s = leb 9 (get_or s 0 0)

-- a log is text, whatever its first byte
abbrev pub as_text : Form → List ℕ → Bool
as_text Records s = is_text s
as_text Claims s = is_text s
as_text Log s = true

-- of records as many bytes are judged as can be read from text
unfoldable pub read_either : Form → List ℕ → Reading
read_either form s = if_true (as_text form s) (read_text form s) (Entries (take (bytes_most form) s))
