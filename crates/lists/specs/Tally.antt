-- A test as a number, and how many numbers below a bound pass a test. Assumes nothing.
use Rattle.std.specs.Prelude.{Bool, true, false, ℕ, zero, suc, ◌+◌}

abbrev pub num : Bool → ℕ
num true = 1
num false = 0

unfoldable pub tally : (ℕ → Bool) → ℕ → ℕ
tally p zero = 0
tally p (suc m) = num (p m) + tally p m
