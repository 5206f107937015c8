-- The sizes of a book and the kinds of its records. Assumes nothing: these are definitions.
use Rattle.std.specs.Prelude.{ℕ}

-- the most that a book and a list of claims may have
abbrev pub PIECES : ℕ
PIECES = 2048

abbrev pub RECORDS : ℕ
RECORDS = 8192

abbrev pub CLAIMS : ℕ
CLAIMS = 4096

-- the bytes of a record and of the longest book
abbrev pub RECORD-BYTES : ℕ
RECORD-BYTES = 6

abbrev pub BOOK-BYTES : ℕ
BOOK-BYTES = 49152

-- the kinds of records that state a fact or a mark
abbrev pub PART : ℕ
PART = 1

abbrev pub APART : ℕ
APART = 2

abbrev pub MEETS : ℕ
MEETS = 3

abbrev pub NOTPART : ℕ
NOTPART = 4

abbrev pub VOID : ℕ
VOID = 6
