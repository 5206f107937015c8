-- The sizes of a chain. Assumes nothing: these are definitions.
use Rattle.std.specs.Prelude.{ℕ}

abbrev pub STEP-BYTES : ℕ
STEP-BYTES = 10

-- the most steps of a chain, and their bytes
abbrev pub STEPS : ℕ
STEPS = 16400

abbrev pub CHAIN-BYTES : ℕ
CHAIN-BYTES = 164000
