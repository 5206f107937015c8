-- Chains in which no fact is shown twice. Assumes nothing.
use Rattle.std.specs.Prelude.{ℕ, ◌≤◌, ◌<◌, ◌≡◌, Bool, false, List}
use Rattle.chain_format.specs.declared.steps.Step.{Step}
use Rattle.chain_format.specs.Step.{step_at, steps, showing}

-- two steps show the same: in either order where the kind is unordered
abbrev pub alike : Step → Step → Bool
alike s t = showing s t.kind t.a t.b

-- no two steps from m up to m' do
abbrev pub Differ : List ℕ → ℕ → ℕ → Type 0
Differ c m m' = (i j : ℕ) → m ≤ i → i < j → j < m' → alike (step_at c i) (step_at c j) ≡ false

-- no two steps of a chain do
abbrev pub NoneTwice : List ℕ → Type 0
NoneTwice c = Differ c 0 (steps c)
