-- Steps of containment between leaders, along which rows are joined. Assumes nothing.
use Rattle.std.specs.Prelude.{ℕ, ◌<◌, ◌≡◌, true, List, length, get_or}
use Rattle.matrices.specs.Matrix.{bit_of}
use Rattle.matrices.specs.Flow.{Sorted}
use Rattle.matrices.specs.Led.{Led}
use Rattle.rules.specs.Fact.{Fact}
use Rattle.closure.specs.Closed.{part_bit}

pub record Stepped (n : ℕ) (fs : List Fact) (e order lead : List ℕ) : Type 0 where
  pub sized : length e ≡ 65536
  pub sorted : Sorted e n order
  pub led : Led n lead
  -- a piece and its leader are part of each other
  pub up : (g : ℕ) → g < n → part_bit n fs (get_or lead g 0) g ≡ true
  pub down : (g : ℕ) → g < n → part_bit n fs g (get_or lead g 0) ≡ true
  -- a step leads from a leader to a leader that is part of it
  pub sound : (h p : ℕ) → h < n → p < 2048 → bit_of e h p ≡ true → (get_or lead h 0 ≡ h) × (get_or lead p 0 ≡ p) × (part_bit n fs h p ≡ true)
  -- of a leader that is part of another one, there is a step down from the upper and one up from the lower
  pub first : (h x : ℕ) → h < n → x < n → get_or lead h 0 ≡ h → get_or lead x 0 ≡ x → (h ≡ x → ⊥) → part_bit n fs h x ≡ true → (p : ℕ) × (p < n) × (bit_of e h p ≡ true) × (part_bit n fs p x ≡ true)
  pub last : (h x : ℕ) → h < n → x < n → get_or lead h 0 ≡ h → get_or lead x 0 ≡ x → (h ≡ x → ⊥) → part_bit n fs h x ≡ true → (p : ℕ) × (p < n) × (bit_of e p x ≡ true) × (part_bit n fs h p ≡ true)
