-- The longest pages about one book. Assumes nothing: these are definitions.
use Rattle.std.specs.Prelude.{ℕ}

abbrev pub ASK-ROOM : ℕ
ASK-ROOM = 135343

-- an answer in words
abbrev pub CLAIM-LINE : ℕ
CLAIM-LINE = 33

abbrev pub ASK-WORDS-ROOM : ℕ
ASK-WORDS-ROOM = 175

abbrev pub GRID-ROOM : ℕ
GRID-ROOM = 4498

abbrev pub LIST-ROOM : ℕ
LIST-ROOM = 12300

abbrev pub SHOW-ROOM : ℕ
SHOW-ROOM = 229404
