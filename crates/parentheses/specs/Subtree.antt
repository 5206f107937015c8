-- The places of a subtree. A node's place is its number in depth-first order (preorder), from 0: how many ones stand before its own.
-- Assumes nothing.
use Rattle.std.specs.Prelude.{Bool, List, ℕ}
use Rattle.parentheses.specs.Rank.{rank, select}
use Rattle.parentheses.specs.Close.{close}

-- the first place past the subtree of the node at place p: how many nodes open before its closing parenthesis
unfoldable pub after : List Bool → ℕ → ℕ
after bs p = rank bs (close bs (select bs p))
