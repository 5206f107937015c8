-- The pairs of a list of facts: those of its PARTs. Assumes nothing.
use Rattle.std.specs.Prelude.{Bool, ◌&&◌, List, ℕ, eqb}
use Rattle.rules.specs.Fact.{Fact}
use Rattle.rules.specs.Follows.{storing}

unfoldable pub part_in : List Fact → ℕ → ℕ → Bool
part_in fs p c = storing fs 1 (λ a b. eqb a p && eqb b c)
