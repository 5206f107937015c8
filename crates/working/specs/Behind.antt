-- No call of a working book writes behind the first 49,152 bytes of its area. Assumes nothing.
use Rattle.outcomes.specs.Accepted.{Outcome}
use Rattle.std.specs.Prelude.{◌≡◌, List, [], ℕ, ◌≤◌, length, drop}
use Rattle.outcomes.specs.Outcome.{number}
use Rattle.outcomes.specs.Fresh.{fresh_call}
use Rattle.working.specs.declared.keeping.Working.{Working}
use Rattle.working.specs.Kept.{Started, Added, Withdrawn}

-- a run that is kept has at most 49,152 bytes
abbrev pub RunFits : Type 0
RunFits = (run : List ℕ) → number (fresh_call run []) ≡ 0 → length run ≤ 49152

pub record Untouched (area area' : List ℕ) : Type 0 where
  pub as_long : length area' ≡ length area
  pub behind : drop 49152 area' ≡ drop 49152 area

-- whatever the counts, the area and the rest of the input
pub record NoneBehind (w : Working) (area : List ℕ) (r : Outcome) (w' : Working) (area' : List ℕ) : Type 0 where
  pub started : Started area r w' area' → Untouched area area'
  pub added : (a : List ℕ) → Added w area a r w' area' → Untouched area area'
  pub withdrawn : (i : ℕ) → Withdrawn w area i r w' area' → Untouched area area'

abbrev pub NeverBehind : Type 0
NeverBehind = (w : Working) (area : List ℕ) (r : Outcome) (w' : Working) (area' : List ℕ) → NoneBehind w area r w' area'
