-- The bytes of a new book: a record more than a book that is read. Assumes nothing: this is a definition.
use Rattle.std.specs.Prelude.{ℕ}

abbrev pub OUT-BYTES : ℕ
OUT-BYTES = 49164
