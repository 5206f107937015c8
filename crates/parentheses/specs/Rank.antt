-- Counting: how many ones stand before a position, and where the j-th 1 stands.
-- Assumes nothing.
use Rattle.std.specs.Prelude.{Bool, false, List, ℕ, zero, suc, ◌+◌, ltb, get_or, length}
use Rattle.lists.specs.First.{first}
use Rattle.lists.specs.Tally.{num}

-- how many of the bits before position k are 1
unfoldable pub rank : List Bool → ℕ → ℕ
rank bs zero = 0
rank bs (suc k) = rank bs k + num (get_or bs k false)

-- the position of the j-th 1, from 0: the first after which more than j ones have passed; the number of bits where there is none
unfoldable pub select : List Bool → ℕ → ℕ
select bs j = first (λ q. ltb j (rank bs (suc q))) 0 (length bs)
