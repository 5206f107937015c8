-- Groups of pieces that are PART of each other, numbered in the order of their lowest members, and the pairs between groups. Assumes nothing.
use Rattle.std.specs.Prelude.{Bool, not, ◌&&◌, ◌||◌, ℕ, eqb}
use Rattle.lists.specs.Any.{any_below}
use Rattle.lists.specs.First.{first}
use Rattle.lists.specs.Tally.{tally}
use Rattle.rules.specs.Follows.{table, entry, rounds}

-- n pieces, and `fact p c` where p is a stored part of the container c
module _ (n : ℕ) (fact : ℕ → ℕ → Bool) where
  -- g is PART of h: by steps up, each to the piece itself, to piece 0 by rule (f), or to a stored container
  unfoldable pub lies : ℕ → ℕ → Bool
  lies g h = entry (rounds n n (table n (λ x y. eqb x y || (eqb y 0 || fact x y)))) g h

  -- g and h are the same ice
  unfoldable pub same : ℕ → ℕ → Bool
  same g h = lies g h && lies h g

  -- the lowest member of the group of g
  unfoldable pub lowest : ℕ → ℕ
  lowest g = first (same g) 0 n

  unfoldable pub first_of : ℕ → Bool
  first_of g = eqb (lowest g) g

  -- the number of the group of g, and how many groups there are
  unfoldable pub number : ℕ → ℕ
  number g = tally first_of (lowest g)

  unfoldable pub groups : ℕ
  groups = tally first_of n

  -- the pairs of groups: some member of group p is a stored part of some member of group c, another group
  unfoldable pub pair : ℕ → ℕ → Bool
  pair p c = not (eqb p c) && any_below (λ g. eqb (number g) p && any_below (λ h. eqb (number h) c && fact g h) n) n
