-- The longest pages about a log and about two books. Assumes nothing: these are definitions.
use Rattle.std.specs.Prelude.{ℕ}

abbrev pub LOG-PAGE-ROOM : ℕ
LOG-PAGE-ROOM = 655380

abbrev pub COMPARISON-ROOM : ℕ
COMPARISON-ROOM = 208960

abbrev pub COMPARISON-HEAD : ℕ
COMPARISON-HEAD = 149
