-- The side of a grid. Assumes nothing: these are definitions.
use Rattle.std.specs.Prelude.{ℕ}

abbrev pub SIDE : ℕ
SIDE = 64
