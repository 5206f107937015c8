-- The longest lines. Assumes nothing: these are definitions.
use Rattle.std.specs.Prelude.{ℕ}

-- the digits of the largest number
abbrev pub NUMBER : ℕ
NUMBER = 20

-- that of a refusal
abbrev pub REFUSED-LINE : ℕ
REFUSED-LINE = 142

-- that of a source that cannot be read
abbrev pub UNREAD-LINE : ℕ
UNREAD-LINE = 95
