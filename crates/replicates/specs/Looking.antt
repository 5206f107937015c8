-- What the loops over a log promise each other. Assumes nothing.
use Rattle.std.specs.Prelude.{ℕ, ◌+◌, ◌<◌, ◌≤◌, ◌≡◌, Bool, true, false, List, leb, length, get_or}
use Rattle.replicates.specs.declared.windows.Seen.{Seen}
use Rattle.replicates.specs.Before.{apart_before, clear, pairwise}

-- a sequence of pieces below 2,048, and the rows of what is apart
pub record Sequence (xs a : List ℕ) : Type 0 where
  pub wide : length a ≡ 65536
  pub pieces : (j : ℕ) → j < length xs → get_or xs j 0 < 2048

-- one entry more, number j, that is apart or not
abbrev pub seeing : Seen → ℕ → Bool → Seen
seeing s j true = record { apart = s.apart + 1; from = s.from }
seeing s j false = record { apart = s.apart; from = j + 1 }

-- entry q against those before it: how many are apart, and from where on all are
pub record Looked (R : ℕ → ℕ → Bool) (xs : List ℕ) (q : ℕ) (r : Seen) : Type 0 where
  pub count : r.apart ≡ apart_before R xs q
  pub from : (low : ℕ) → q ≤ low + 31 → clear R xs low q ≡ leb r.from low
  pub small : r.from ≤ q

-- from entry `start` on every two before q are apart, as far back as anyone looks
abbrev pub Reach : (ℕ → ℕ → Bool) → List ℕ → ℕ → ℕ → Type 0
Reach R xs q start = (low : ℕ) → q ≤ low + 32 → pairwise R xs low q ≡ leb start low
