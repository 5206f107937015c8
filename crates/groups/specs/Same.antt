-- Where every container has a lower number than its part, each piece is a group, and the index is that of the pieces. Assumes nothing.
use Rattle.std.specs.Prelude.{◌≡◌, Bool, true, ℕ, ◌<◌}
use Rattle.index.specs.Pairs.{joined}
use Rattle.index.specs.Parts.{place_list}
use Rattle.index.specs.Index.{parentheses_of, visits_of}
use Rattle.groups.specs.Groups.{lowest, number, groups}
use Rattle.groups.specs.Index.{book_parens, book_visits, book_places}

pub record SameIndex (n : ℕ) (fact : ℕ → ℕ → Bool) : Type 0 where
  pub groups-are : groups n fact ≡ n
  pub number_is : (g : ℕ) → g < n → number n fact g ≡ g
  pub lowest-is : (g : ℕ) → g < n → lowest n fact g ≡ g
  pub parens-are : book_parens n fact ≡ parentheses_of n (joined n fact)
  pub visits-are : book_visits n fact ≡ visits_of n (joined n fact)
  pub places-are : book_places n fact ≡ place_list n (visits_of n (joined n fact))

-- the pairs are of pieces below n, and containers are lower
pub record Falling (n : ℕ) (fact : ℕ → ℕ → Bool) : Type 0 where
  pub some : 0 < n
  pub within : (p c : ℕ) → fact p c ≡ true → (p < n) × (c < n)
  pub lower : (p c : ℕ) → fact p c ≡ true → c < p
