-- Which record says a hop, and what the matrix of steps has to do with the facts. Assumes nothing.
use Rattle.std.specs.Prelude.{ℕ, ◌<◌, ◌≡◌, ◌⊎◌, true, length, get_or}
use mathlib.Core.List.{List, Memᴰ}
use Rattle.matrices.specs.Matrix.{bit_of}
use Rattle.rules.specs.Fact.{Fact, PART}
use Rattle.chain_format.specs.Citing.{fact, none, citing}
use Rattle.records.specs.declared.Record.{Record}

-- record j may be cited for x is part of y
abbrev pub Says : Record → List ℕ → ℕ → ℕ → ℕ → Type 0
Says claim book j x y = get_or (citing claim book) j none ≡ fact (PART x y)

-- of the first m records one that says the hop of x; 65535 where none does
pub record Sources (claim : Record) (book hop : List ℕ) (m : ℕ) (source : List ℕ) : Type 0 where
  pub sized : length source ≡ 2048
  pub each :
      (x : ℕ) → x < 2048
      → ((get_or source x 0 < m) × Says claim book (get_or source x 0) x (get_or hop x 0)) ⊎ ((get_or source x 0 ≡ 65535) × ((j : ℕ) → j < m → Says claim book j x (get_or hop x 0) → ⊥))

-- the matrix e has the steps of containment: the stored PARTs, and every piece in 0
pub record Stepped (n : ℕ) (fs : List Fact) (e : List ℕ) : Type 0 where
  pub sound : (x y : ℕ) → x < n → y < n → bit_of e y x ≡ true → Memᴰ (PART x y) fs ⊎ (y ≡ 0)
  pub stored : (x y : ℕ) → Memᴰ (PART x y) fs → bit_of e y x ≡ true
  pub crown : (x : ℕ) → 0 < x → x < n → bit_of e 0 x ≡ true
