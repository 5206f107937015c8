-- What the two tables say of a byte: how many of its bits are 1, and its lowest running excess.
-- Assumes nothing.
use Rattle.std.specs.Prelude.{Bool, true, false, List, [], ◌∷◌, ℕ, zero, suc, ℤ}
use Rattle.std.specs.Int.Signed.{le_z}
use Rattle.parentheses.specs.Bits.{bits}
use Rattle.parentheses.specs.Rank.{rank}
use Rattle.parentheses.specs.Close.{excess}

-- how many bits of the byte b are 1
unfoldable pub ones_of : ℕ → ℕ
ones_of b = rank (bits (b ∷ [])) 8

unfoldable pub lower : ℤ → ℤ → ℤ
lower x y = elim (le_z x y) [ true ↦ x | false ↦ y ]

-- the lowest excess after at least one and at most n + 1 bits
unfoldable pub lowest : List Bool → ℕ → ℤ
lowest bs zero = excess bs 1
lowest bs (suc n) = lower (lowest bs n) (excess bs (suc (suc n)))

-- the lowest running excess of the byte b, after at least one bit
unfoldable pub lowest_of : ℕ → ℤ
lowest_of b = lowest (bits (b ∷ [])) 7
