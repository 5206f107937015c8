-- Matching: 1 opens, 0 closes. The excess is how many more ones than zeros have passed.
-- Assumes nothing.
use Rattle.std.specs.Prelude.{Bool, List, ℕ, suc, ◌+◌, ◌-◌, ◌*◌, eqb, ℤ, length}
use Rattle.std.proofs.Math.IntN.{sub_ℕ}
use Rattle.lists.specs.First.{first}
use Rattle.parentheses.specs.Rank.{rank}

-- the excess of the bits before position k: of k bits, twice the ones less k
unfoldable pub excess : List Bool → ℕ → ℤ
excess bs k = sub_ℕ (2 * rank bs k) k

-- from o to q, both counted, there are as many ones as zeros: the excess after q is that before o, put without subtraction
unfoldable pub balanced : List Bool → ℕ → ℕ → Bool
balanced bs o q = eqb (2 * rank bs (suc q) + o) (2 * rank bs o + suc q)

-- the position of the parenthesis that closes the one at o: the first after it where the excess is back to what it was before o; the
-- number of bits where there is none
unfoldable pub close : List Bool → ℕ → ℕ
close bs o = first (balanced bs o) (suc o) (length bs - suc o)
