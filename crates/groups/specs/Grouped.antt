-- What is made of a matrix of pairs: each piece's group, its leader, and an order of the pieces. Assumes nothing.
use Rattle.std.specs.Prelude.{◌≡◌, Bool, true, ◌&&◌, ◌||◌, List, ℕ, ◌<◌, ◌≤◌, eqb, ltb, length, get_or}
use Rattle.matrices.specs.Matrix.{bit_of}
use Rattle.groups.specs.Groups as on
use Rattle.groups.specs.Groups.{lies, lowest, groups}

-- the matrix has the pairs of n pieces, container to part, and in row 0 every other piece
pub record Edged (n : ℕ) (fact : ℕ → ℕ → Bool) (e : List ℕ) : Type 0 where
  pub within : (p c : ℕ) → fact p c ≡ true → (p < n) × (c < n)
  pub bits : (c p : ℕ) → c < n → p < n → bit_of e c p ≡ (fact p c || (eqb c 0 && ltb 0 p))

-- a group's leader is its lowest member
pub record Grouped (n : ℕ) (fact : ℕ → ℕ → Bool) (number lead order : List ℕ) (count : ℕ) : Type 0 where
  pub counted : count ≡ groups n fact
  pub numbers : (g : ℕ) → g < n → get_or number g 0 ≡ on.number n fact g
  pub leads : (g : ℕ) → g < n → get_or lead g 0 ≡ lowest n fact g
  -- the first n of `order` are the pieces, each once; of two leaders the part comes before its container
  pub room : n ≤ length order
  pub at : ℕ → ℕ
  pub row : (i : ℕ) → i < n → (get_or order i 0 < n) × (at (get_or order i 0) ≡ i)
  pub placed : (h : ℕ) → h < n → (at h < n) × (get_or order (at h) 0 ≡ h)
  pub earlier : (h p : ℕ) → h < n → p < n → lowest n fact h ≡ h → lowest n fact p ≡ p → (p ≡ h → ⊥) → lies n fact p h ≡ true → at p < at h
