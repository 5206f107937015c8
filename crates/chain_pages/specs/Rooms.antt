-- The longest page of a chain. Assumes nothing: these are definitions.
use Rattle.std.specs.Prelude.{ℕ}

abbrev pub WHY-ROOM : ℕ
WHY-ROOM = 852835
