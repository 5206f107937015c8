-- What the writers of containment promise: which of several chains is written is free. Assumes nothing.
use Rattle.std.specs.Prelude.{ℕ, ◌+◌, ◌-◌, ◌*◌, ◌≤◌, ◌<◌, ◌≡◌, true, List}
use Rattle.rules.specs.Fact.{PART}
use Rattle.chain_format.specs.Citing.{Cited}
use Rattle.chain_format.specs.Step.{step_at, shows}
use Rattle.chain_format.specs.Chain.{all_ok}
use Rattle.derivations.specs.Written.{Edited}
use Rattle.derivations.specs.Hops.{Reaches, Sourced}
use Rattle.derivations.specs.Distinct.{Distinct, Upward, Rank, Rising}

-- steps m up to m' lead from g PART x to g PART k, two for each hop
pub record Climbed (hop source : List ℕ) (k g x : ℕ) (c : List ℕ) (m : ℕ) (c' : List ℕ) (m' : ℕ) : Type 0 where
  pub more : m ≤ m'
  pub edited : Edited c c' (10 * m) (10 * m')
  pub few : (most : ℕ) → Reaches hop k x most → m' ≤ m + 2 * most
  pub shown : shows (step_at c' (m' - 1)) (PART g k) ≡ true
  pub ok : (n : ℕ) (es : List Cited) → Sourced n es hop source k → x < n → g < n → all_ok n es c m ≡ true → all_ok n es c' m' ≡ true
  pub steps : (l r : ℕ) → Rank hop k x l → Rank hop k g r → l < r → Upward hop k g x → Distinct (Rising hop k g 0 l) c' m m'

-- steps m up to m' end in g PART k: one less than two for each hop, and one where there is none
pub record Contained (hop source : List ℕ) (k g : ℕ) (c : List ℕ) (m : ℕ) (c' : List ℕ) (m' : ℕ) : Type 0 where
  pub more : m < m'
  pub edited : Edited c c' (10 * m) (10 * m')
  pub few : (most : ℕ) → 1 ≤ most → Reaches hop k g most → m' + 1 ≤ m + 2 * most
  pub shown : shows (step_at c' (m' - 1)) (PART g k) ≡ true
  pub ok : (n : ℕ) (es : List Cited) → Sourced n es hop source k → g < n → all_ok n es c m ≡ true → all_ok n es c' m' ≡ true
  pub steps : (g ≡ k → ⊥) → Distinct (λ z. (z.kind ≡ 1) × Upward hop k g z.b) c' m m'
