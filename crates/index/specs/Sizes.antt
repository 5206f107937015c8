-- The sizes of the four parts of an index. Assumes nothing: these are definitions.
use Rattle.std.specs.Prelude.{ℕ}

abbrev pub PARENTHESES-BYTES : ℕ
PARENTHESES-BYTES = 2560

abbrev pub MARKS-BYTES : ℕ
MARKS-BYTES = 1280

abbrev pub SHADOWS : ℕ
SHADOWS = 8192

abbrev pub PLACES : ℕ
PLACES = 2048

-- the most nodes of a tree, shadows among them
abbrev pub NODES : ℕ
NODES = 10240
