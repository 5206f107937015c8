-- The places of what stands at or below the node of a piece, read off the parentheses and the place list. Assumes nothing.
use Rattle.std.specs.Prelude.{◌≡◌, Bool, true, false, ◌&&◌, List, ℕ, ◌+◌, ◌-◌, eqb, leb, ltb, length, get_or, take}
use Rattle.parentheses.specs.Bits.{bits}
use Rattle.parentheses.specs.Forest.{size, children}
use Rattle.parentheses.specs.Subtree.{after}
use Rattle.index.specs.Tree.{whole}
use Rattle.index.specs.Parts.{shape, place}
use Rattle.index.specs.Index.{visits_of}

-- the first place past the subtree of the node of piece g; 0 where the parts are shorter than an index, or the place list than g
unfoldable pub end_of : List ℕ → List ℕ → ℕ → ℕ
end_of parens places g =
    elim (leb 2560 (length parens) && ltb g (length places)) [ true ↦ after (bits (take 2560 parens)) (get_or places g 0) | false ↦ 0 ]

-- the first and the last place; from 1 to 0, an empty range, where there is no end
unfoldable pub range_from : List ℕ → List ℕ → ℕ → ℕ
range_from parens places g = elim (eqb (end_of parens places g) 0) [ true ↦ 1 | false ↦ get_or places g 0 ]

unfoldable pub range_to : List ℕ → List ℕ → ℕ → ℕ
range_to parens places g = end_of parens places g - 1

-- in the index of n pieces with these edges: from the place of h's node on, as many places more as there are nodes and shadows below it
pub record Spanned (n : ℕ) (edge : ℕ → ℕ → Bool) (h from to : ℕ) : Type 0 where
  pub from_is : from ≡ place (visits_of n edge) h
  pub to_is : to ≡ place (visits_of n edge) h + size (children (shape (whole n edge)) (place (visits_of n edge) h))
