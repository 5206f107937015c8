-- What the groups of the index are, by the rules. Assumes nothing.
use Rattle.std.specs.Prelude.{ℕ, ◌<◌, ◌≡◌, ◌↔◌, true, List, Ok}
use Rattle.rules.specs.Fact.{PART, unmarked}
use Rattle.rules.specs.Derives.{Derives}
use Rattle.rules.specs.Follows.{follows}
use Rattle.records.specs.Facts.{facts}
use Rattle.records.specs.Check.{book_check}
use Rattle.groups.specs.Groups.{lies, same}
use Rattle.outcomes.specs.Call.{pairs_of}

-- g lies in h by the stored pairs exactly where PART g h follows from the stored facts, marks aside, which is where it has a derivation from them; so two
-- pieces are the same ice where each has a derivation of PART in the other
pub record Circled (s : List ℕ) (n : ℕ) : Type 0 where
  pub lies-follows : (g h : ℕ) → lies n (pairs_of s) g h ≡ follows unmarked n (facts s) (PART g h)
  pub lies-derives : (g h : ℕ) → g < n → h < n → (lies n (pairs_of s) g h ≡ true) ↔ Derives unmarked n (facts s) (PART g h)
  pub same-derives :
      (g h : ℕ) → g < n → h < n → (same n (pairs_of s) g h ≡ true) ↔ (Derives unmarked n (facts s) (PART g h) × Derives unmarked n (facts s) (PART h g))

abbrev pub CirclesDerived : Type 0
CirclesDerived = (s : List ℕ) (n : ℕ) → book_check s ≡ Ok n → Circled s n
