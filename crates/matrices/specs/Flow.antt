-- Rows carried along the bits of a matrix e, in which bit p of row h is an edge from h to p. Assumes nothing.
use Rattle.std.specs.Prelude.{◌≡◌, List, Bool, true, ◌||◌, ◌&&◌, ℕ, ◌<◌, ◌≤◌, eqb, length, get_or}
use Rattle.lists.specs.Any.{any_below}
use Rattle.matrices.specs.Matrix.{bit_of}

-- the first n of `order` are the rows below n, each once, and an edge leads to a row that comes before
pub record Sorted (e : List ℕ) (n : ℕ) (order : List ℕ) : Type 0 where
  pub room : n ≤ length order
  pub at : ℕ → ℕ
  pub row : (i : ℕ) → i < n → (get_or order i 0 < n) × (at (get_or order i 0) ≡ i)
  pub placed : (h : ℕ) → h < n → (at h < n) × (get_or order (at h) 0 ≡ h)
  pub earlier : (h p : ℕ) → h < n → p < 2048 → bit_of e h p ≡ true → (at p < at h) × (p < n)

-- m' is m with row h put into each row that an edge leads to from h
pub record Pushed (e m m' : List ℕ) (h : ℕ) : Type 0 where
  pub bits : (q y : ℕ) → q < 2048 → y < 2048 → bit_of m' q y ≡ (bit_of m q y || (bit_of e h q && bit_of m h y))

-- r is reached by single steps s: a row reaches itself, and what a row reaches to which a step leads
pub record Reached (s : ℕ → ℕ → Bool) (n : ℕ) (r : ℕ → ℕ → Bool) : Type 0 where
  pub step : (h x : ℕ) → h < n → x < 2048 → r h x ≡ (eqb h x || any_below (λ p. s h p && r p x) n)

-- row h of m' below n is the union of the rows of m that h reaches by r
pub record Carried (r : ℕ → ℕ → Bool) (n : ℕ) (m m' : List ℕ) : Type 0 where
  pub row : (h y : ℕ) → h < n → y < 2048 → bit_of m' h y ≡ any_below (λ x. r h x && bit_of m x y) 2048
  pub other : (h y : ℕ) → n ≤ h → h < 2048 → y < 2048 → bit_of m' h y ≡ bit_of m h y

-- along the edges, against them, and what is reached so
abbrev pub along : List ℕ → ℕ → ℕ → Bool
along e h p = bit_of e h p

abbrev pub against : List ℕ → ℕ → ℕ → Bool
against e p h = bit_of e h p
