-- What the functions that hold a page against a text promise each other. Assumes nothing.
use Rattle.std.specs.Prelude.{ℕ, ◌≤◌, ◌<◌, ◌≡◌, Bool, true, List, ◌++◌, length, take}
use Rattle.chain_format.specs.declared.steps.Step.{Step}

-- where `end` lies on the page, the text stands before it; an end behind the page says that the page does not begin with the text
pub record Begins (page text : List ℕ) (end : ℕ) : Type 0 where
  pub there : end ≤ length page → (length text ≡ end) × (take end page ≡ text)
  pub other : length page < end → (rest : List ℕ) → page ≡ text ++ rest → ⊥

-- from `at` on the text stands before `end`, whatever stands before `at`
abbrev pub Passed : (page : List ℕ) (at : ℕ) (text : List ℕ) (end : ℕ) → Type 0
Passed page at text end = (before : List ℕ) → Begins page before at → Begins page (before ++ text) end

pub record Same (page text : List ℕ) (r : Bool) : Type 0 where
  pub sound : r ≡ true → page ≡ text
  pub complete : page ≡ text → r ≡ true

-- what makes the line of step i at most 52 bytes
abbrev pub Narrow : (i : ℕ) → Step → Type 0
Narrow i s = (i < 100000) × (s.a < 65536) × (s.b < 65536) × (s.first < 65536) × (s.second < 65536)
