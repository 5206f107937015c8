-- What the rows of all pieces hold once they are filled: containment over the parts of the index. Assumes nothing.
use Rattle.std.specs.Prelude.{◌≡◌, ◌↔◌, Bool, true, false, List, ℕ, ◌≤◌, ◌<◌, length, get_or}
use Rattle.parentheses.specs.Bits.{bits}
use Rattle.parentheses.specs.Padded.{padded}
use Rattle.parentheses.specs.Rank.{rank}
use Rattle.matrices.specs.Matrix.{bit_of}
use Rattle.matrices.specs.Led.{Led}
use Rattle.index.specs.Pairs.{Book}
use Rattle.index.specs.Parts as on
use Rattle.index.specs.Index.{parentheses_of, visits_of, Room}
use Rattle.containment.specs.Inside.{Inside}

-- the parts hold the index of some groups of pieces: `number` says which group a piece is in, and a piece has the place of its group
pub record Stored (n nodes : ℕ) (parens marks shadows places lead : List ℕ) : Type 0 where
  pub groups : ℕ
  pub edge : ℕ → ℕ → Bool
  pub number : ℕ → ℕ
  pub book : Book groups edge
  pub below : (g : ℕ) → g < n → number g < groups
  pub onto : (k : ℕ) → k < groups → (g : ℕ) × (g < n) × (number g ≡ k)
  pub room : Room groups edge (length parens) (length marks) (length shadows) (length places)
  pub listed : n ≤ length places
  pub parens-are : parens ≡ on.packed (length parens) (parentheses_of groups edge)
  pub marks-are : marks ≡ on.packed (length marks) (on.marks (visits_of groups edge))
  pub shadows-are : shadows ≡ padded 0 (length shadows) (on.shadow_list (visits_of groups edge))
  pub nodes-are : nodes ≡ length (visits_of groups edge)
  pub places-are : (g : ℕ) → g < n → get_or places g 0 ≡ on.place (visits_of groups edge) (number g)
  -- one piece of each group leads
  pub led : Led n lead
  pub leads : (g h : ℕ) → g < n → h < n → number g ≡ number h → get_or lead g 0 ≡ get_or lead h 0
  pub same : (g : ℕ) → g < n → number (get_or lead g 0) ≡ number g

-- bit g of row h: g is inside h. Every other bit of the rows below n is 0
pub record Contents (n : ℕ) (parens marks shadows places rows : List ℕ) : Type 0 where
  pub inside : (h g : ℕ) → h < n → g < n → (bit_of rows h g ≡ true) ↔ Inside (bits parens) (bits marks) shadows (get_or places h 0) (get_or places g 0)
  pub no-column : (h g : ℕ) → h < n → n ≤ g → g < 2048 → bit_of rows h g ≡ false

-- the place that counts at a place: the one for which the shadow there stands, or itself
unfoldable pub leads : List Bool → List ℕ → ℕ → ℕ
leads marks shadows s = elim (get_or marks s false) [ true ↦ get_or shadows (rank marks s) 0 | false ↦ s ]

-- the places of the pieces below n are below `wide`, and pieces at one place have one leader
pub record Turnable (n : ℕ) (places lead : List ℕ) (wide : ℕ) : Type 0 where
  pub listed : n ≤ length places
  pub led : Led n lead
  pub small : (g : ℕ) → g < n → get_or places g 0 < wide
  pub alike : (g h : ℕ) → g < n → h < n → get_or places g 0 ≡ get_or places h 0 → get_or lead g 0 ≡ get_or lead h 0

-- each shadow below `nodes` stands for a place there that is no shadow
pub record StandsFor (nodes : ℕ) (marks : List Bool) (shadows : List ℕ) : Type 0 where
  pub listed : (s : ℕ) → s < nodes → get_or marks s false ≡ true → rank marks s < length shadows
  pub target : (s : ℕ) → s < nodes → get_or marks s false ≡ true → (get_or shadows (rank marks s) 0 < nodes) × (get_or marks (get_or shadows (rank marks s) 0) false ≡ false)
