-- The search for a closing parenthesis from a position on, at a depth: the excess there, counted from before the one that opens.
-- Assumes nothing.
use Rattle.std.specs.Prelude.{Bool, List, ℕ, suc, ◌+◌, ◌-◌, ◌*◌, ◌<◌, eqb, length}
use Rattle.lists.specs.First.{first}
use Rattle.parentheses.specs.Rank.{rank}

-- after position q the depth d that there was before position p has fallen to 0, put without subtraction
unfoldable pub shuts : List Bool → ℕ → ℕ → ℕ → Bool
shuts bs p d q = eqb (2 * rank bs (suc q) + p + d) (2 * rank bs p + suc q)

-- the first position from p on after which the depth has fallen to 0; the number of bits where there is none
unfoldable pub closing : List Bool → ℕ → ℕ → ℕ
closing bs p d = first (shuts bs p d) p (length bs - p)

-- a run that may be passed over: the depth stays above 0 after each of the n bits from p on
abbrev pub Stays : List Bool → ℕ → ℕ → ℕ → Type 0
Stays bs p n d = (j : ℕ) → j < n → suc j + 2 * rank bs p < d + 2 * rank bs (p + suc j)
