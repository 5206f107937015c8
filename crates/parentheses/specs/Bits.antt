-- Bits in bytes: bit k is in byte k / 8 at weight 2 to the power k mod 8.
-- Assumes nothing.
use Rattle.std.specs.Prelude.{Bool, List, ℕ, ◌*◌, ◌/◌, ◌%◌, ◌^◌, eqb, get_or, length}
use Rattle.lists.specs.Tab.{tab}

-- the digit of b at weight 2 ^ j: 0 or 1
unfoldable pub digit : ℕ → ℕ → ℕ
digit b j = b / 2 ^ j % 2

-- bit k of the bytes l; false past their end
unfoldable pub bit_of : List ℕ → ℕ → Bool
bit_of l k = eqb (digit (get_or l (k / 8) 0) (k % 8)) 1

-- how many bits a list of bytes has
abbrev pub bit_count : List ℕ → ℕ
bit_count l = 8 * length l

-- all bits of the bytes l
unfoldable pub bits : List ℕ → List Bool
bits l = tab (bit_of l) 0 (bit_count l)
