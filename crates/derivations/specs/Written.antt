-- What writing steps does to the lent bytes. Assumes nothing.
use Rattle.std.specs.Prelude.{ℕ, ◌+◌, ◌*◌, ◌≤◌, ◌<◌, ◌≡◌, List, length, get_or}
use Rattle.chain_format.specs.declared.steps.Step.{Step}
use Rattle.chain_format.specs.Step.{step_at}

-- c' is c but for the bytes from low up to high
pub record Edited (c c' : List ℕ) (low high : ℕ) : Type 0 where
  pub sized : length c' ≡ length c
  pub below : (j : ℕ) → j < low → get_or c' j 0 ≡ get_or c j 0
  pub behind : (j : ℕ) → high ≤ j → get_or c' j 0 ≡ get_or c j 0

-- with step s as step i
pub record Put (c c' : List ℕ) (i : ℕ) (s : Step) : Type 0 where
  pub edited : Edited c c' (10 * i) (10 * i + 10)
  pub step : step_at c' i ≡ s
