-- Rows that follow others: each piece below n has a leader. Assumes nothing.
use Rattle.std.specs.Prelude.{◌≡◌, List, ◌||◌, ◌&&◌, ℕ, ◌<◌, ◌≤◌, eqb, length, get_or}
use Rattle.lists.specs.Any.{any_below}
use Rattle.matrices.specs.Matrix.{bit_of}

-- each leads to a row below n that leads itself
pub record Led (n : ℕ) (lead : List ℕ) : Type 0 where
  pub room : n ≤ length lead
  pub below : (g : ℕ) → g < n → get_or lead g 0 < n
  pub own : (g : ℕ) → g < n → get_or lead (get_or lead g 0) 0 ≡ get_or lead g 0

-- m' is m with each row below n put into its leader's
pub record Pooled (n : ℕ) (lead m m' : List ℕ) : Type 0 where
  pub bits : (h y : ℕ) → h < 2048 → y < 2048 → bit_of m' h y ≡ (bit_of m h y || any_below (λ g. eqb (get_or lead g 0) h && bit_of m g y) n)

-- m' is m with each leader's row put into those below n that follow it
pub record Shared (n : ℕ) (lead m m' : List ℕ) : Type 0 where
  pub row : (h y : ℕ) → h < n → y < 2048 → bit_of m' h y ≡ (bit_of m h y || bit_of m (get_or lead h 0) y)
  pub other : (h y : ℕ) → n ≤ h → h < 2048 → y < 2048 → bit_of m' h y ≡ bit_of m h y
