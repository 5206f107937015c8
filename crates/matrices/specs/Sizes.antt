-- The sizes of a matrix. Assumes nothing: these are definitions.
use Rattle.std.specs.Prelude.{ℕ}

-- rows, one for each piece, and bits in a row
abbrev pub ROWS : ℕ
ROWS = 2048

abbrev pub WORD-BITS : ℕ
WORD-BITS = 64

abbrev pub ROW-WORDS : ℕ
ROW-WORDS = 32

-- words in a matrix
abbrev pub WORDS : ℕ
WORDS = 65536
