-- What a writer of one fact promises, whichever chain it writes. Assumes nothing.
use Rattle.std.specs.Prelude.{ℕ, ◌+◌, ◌-◌, ◌*◌, ◌≤◌, ◌<◌, ◌≡◌, true, List}
use Rattle.rules.specs.Fact.{Fact}
use Rattle.chain_format.specs.Citing.{Cited}
use Rattle.chain_format.specs.Step.{step_at, shows}
use Rattle.chain_format.specs.Chain.{all_ok}
use Rattle.derivations.specs.Written.{Edited}

-- steps m up to m', at most so many, are justified if those before are; the last shows f; other bytes are kept
pub record Writes (n : ℕ) (es : List Cited) (f : Fact) (most : ℕ) (c : List ℕ) (m : ℕ) (c' : List ℕ) (m' : ℕ) : Type 0 where
  pub more : m < m'
  pub few : m' ≤ m + most
  pub edited : Edited c c' (10 * m) (10 * m')
  pub shown : shows (step_at c' (m' - 1)) f ≡ true
  pub ok : all_ok n es c m ≡ true → all_ok n es c' m' ≡ true

-- the same of steps that may be none, where step m - 1 shows f already
pub record Adds (n : ℕ) (es : List Cited) (f : Fact) (most : ℕ) (c : List ℕ) (m : ℕ) (c' : List ℕ) (m' : ℕ) : Type 0 where
  pub more : m ≤ m'
  pub few : m' ≤ m + most
  pub edited : Edited c c' (10 * m) (10 * m')
  pub shown : shows (step_at c' (m' - 1)) f ≡ true
  pub ok : all_ok n es c m ≡ true → all_ok n es c' m' ≡ true
