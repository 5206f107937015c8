-- What the first half of a closure leaves: D and T, and whether the facts are contradictory. Assumes nothing.
use Rattle.std.specs.Prelude.{ℕ, ◌≡◌, Bool, List}
use Rattle.rules.specs.Fact.{Fact}
use Rattle.rules.specs.Follows.{clash}
use Rattle.closure.specs.Closed.{Holds, part_bit, toward_bit}

pub record Opened (void : ℕ → Bool) (n : ℕ) (fs : List Fact) (d t : List ℕ) (clashed : Bool) : Type 0 where
  pub parts : Holds n d (part_bit n fs)
  pub toward : Holds n t (toward_bit void n fs)
  pub is : clashed ≡ clash void n fs
