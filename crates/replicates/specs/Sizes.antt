-- The sizes of a log. Assumes nothing: these are definitions.
use Rattle.std.specs.Prelude.{ℕ}

-- the entries that an entry is held against
abbrev pub WINDOW : ℕ
WINDOW = 31

-- more than a window and a log together
abbrev pub SEQUENCE : ℕ
SEQUENCE = 100000
