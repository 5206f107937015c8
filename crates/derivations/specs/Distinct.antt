-- Runs of steps that all have a property, no two of which show the same; and the pieces on a way. Assumes nothing.
use Rattle.std.specs.Prelude.{ℕ, suc, ◌≤◌, ◌<◌, ◌≡◌, List, get_or}
use Rattle.chain_format.specs.declared.steps.Step.{Step}
use Rattle.chain_format.specs.Step.{step_at}
use Rattle.chain_format.specs.Twice.{Differ}
use Rattle.derivations.specs.Hops.{Way}

-- steps m up to m' of c
pub record Distinct (Q : Step → Type 0) (c : List ℕ) (m m' : ℕ) : Type 0 where
  pub each : (i : ℕ) → m ≤ i → i < m' → Q (step_at c i)
  pub differ : Differ c m m'

-- w is met on the way from g to k, one hop or more from g
pub data Upward (hop : List ℕ) (k g : ℕ) : ℕ → Type 0 where
  begun : {w l : ℕ} → (g ≡ k → ⊥) → Way hop k g (suc l) → w ≡ get_or hop g 0 → Upward hop k g w
  higher : {x w l : ℕ} → Upward hop k g x → (x ≡ k → ⊥) → Way hop k x (suc l) → w ≡ get_or hop x 0 → Upward hop k g w

-- after so many hops from x, and not before, k is reached
pub data Rank (hop : List ℕ) (k : ℕ) : ℕ → ℕ → Type 0 where
  there : {x : ℕ} → x ≡ k → Rank hop k x 0
  above : {x l : ℕ} → (x ≡ k → ⊥) → Rank hop k (get_or hop x 0) l → Rank hop k x (suc l)

-- a step on the way from g shows a PART in a piece met there, whose rank is from low up to high
pub record Rising (hop : List ℕ) (k g low high : ℕ) (z : Step) : Type 0 where
  pub part : z.kind ≡ 1
  pub rank : ℕ
  pub at_least : low ≤ rank
  pub less : rank < high
  pub ranked : Rank hop k z.b rank
  pub upward : Upward hop k g z.b
