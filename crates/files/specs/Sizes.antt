-- The longest path. Assumes nothing: these are definitions.
use Rattle.std.specs.Prelude.{ℕ}

abbrev pub PATH-BYTES : ℕ
PATH-BYTES = 4095
