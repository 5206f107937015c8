-- The groups of the pieces of a list of facts, in lent lists. Assumes nothing.
use Rattle.std.specs.Prelude.{ℕ, ◌<◌, ◌≡◌, List, get_or}
use Rattle.rules.specs.Fact.{Fact}
use Rattle.groups.specs.Groups as on
use Rattle.records.specs.PartIn.{part_in}

-- the number of each piece's group, and how many groups there are
pub record Numbered (n : ℕ) (fs : List Fact) (number : List ℕ) (count : ℕ) : Type 0 where
  pub counted : count ≡ on.groups n (part_in fs)
  pub numbers : (g : ℕ) → g < n → get_or number g 0 ≡ on.number n (part_in fs) g
