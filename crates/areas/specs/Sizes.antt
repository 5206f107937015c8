-- The size of an area. Assumes nothing: these are definitions.
use Rattle.std.specs.Prelude.{ℕ}

-- two numbers a record
abbrev pub AREA-NUMBERS : ℕ
AREA-NUMBERS = 16384
