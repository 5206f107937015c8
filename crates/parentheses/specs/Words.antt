-- How many bits of the bytes of a word are 1. Assumes nothing.
use Rattle.std.specs.Prelude.{ℕ, zero, suc, ◌+◌, ◌/◌, ◌%◌}
use Rattle.parentheses.specs.Tables.{ones_of}

-- of the n low bytes of w
unfoldable pub ones_in : ℕ → ℕ → ℕ
ones_in zero w = 0
ones_in (suc n) w = ones_of (w % 256) + ones_in n (w / 256)
