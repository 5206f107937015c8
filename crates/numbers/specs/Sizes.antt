-- How many values a byte and a 16-bit number have. Assumes nothing: these are definitions.
use Rattle.std.specs.Prelude.{ℕ}

abbrev pub BYTE-VALUES : ℕ
BYTE-VALUES = 256

abbrev pub SHORT-VALUES : ℕ
SHORT-VALUES = 65536
