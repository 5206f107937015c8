-- The bytes that serve for what a text says: one entry more than a list may have, so that too long a list is told. Assumes nothing: these are definitions.
use Rattle.std.specs.Prelude.{ℕ}

abbrev pub BOOK-ROOM : ℕ
BOOK-ROOM = 49158

abbrev pub CLAIMS-ROOM : ℕ
CLAIMS-ROOM = 24582

abbrev pub LOG-ROOM : ℕ
LOG-ROOM = 65538
