-- What the inner functions promise each other. Assumes nothing.
use Rattle.contradiction.specs.Row14.{Row14, clashed_at}
use Rattle.std.specs.Prelude.{ℕ, ◌≤◌, ◌≡◌, false, List, length, Ok}
use Rattle.rules.specs.Fact.{unmarked}
use Rattle.rules.specs.Follows as on
use Rattle.records.specs.Facts.{facts}
use Rattle.records.specs.Check.{former_check}
use Rattle.contradiction.specs.Settled.{Clashed}

-- a book of n pieces by the former edition
abbrev pub FormerBook : List ℕ → ℕ → Type 0
FormerBook s n = former_check s ≡ Ok n

pub record Room (s : List ℕ) (n room : ℕ) : Type 0 where
  pub former : FormerBook s n
  pub long : length s ≤ room

-- what row 14 says of it
pub record Judged (s : List ℕ) (n : ℕ) (r : Row14) : Type 0 where
  pub free : r ≡ Ok tt → false ≡ on.clash unmarked n (facts s)
  pub clash : (place : ℕ) → r ≡ clashed_at place → Clashed unmarked n s place
