-- The rows of what each piece contains, while they are being filled: a row has the pieces that follow its own, and once its own bit is
-- set it is whole. Assumes nothing.
use Rattle.std.specs.Prelude.{◌≡◌, ◌↔◌, Bool, true, List, ◌++◌, ℕ, ◌≤◌, ◌<◌, length, get_or}
use Rattle.parentheses.specs.Subtree.{after}
use Rattle.matrices.specs.Matrix.{bit_of}
use Rattle.index.specs.Pairs.{Book, Within}
use Rattle.index.specs.Tree.{Visit, node, shadow, whole, visits}
use Rattle.index.specs.Parts as on
use Rattle.index.specs.Parts.{place}

-- the group that is visited, or for which the shadow that is visited stands
unfoldable pub visited : Visit → ℕ
visited (node p) = p
visited (shadow p) = p

-- what is read of the index of some groups: the place list, and of each place the first one past its subtree and the piece that leads the group there
pub record Setting (places ends turned : List ℕ) : Type 0 where
  pub n : ℕ
  pub groups : ℕ
  pub edge : ℕ → ℕ → Bool
  pub book : Book groups edge
  pub few : n ≤ 2048
  -- the group of a piece, and the piece that leads a group
  pub number : ℕ → ℕ
  pub leader : ℕ → ℕ
  pub below : (g : ℕ) → g < n → number g < groups
  pub leads : (k : ℕ) → k < groups → (leader k < n) × (number (leader k) ≡ k)
  pub zeros : List Bool
  pub room : n ≤ length places
  pub places-are : (g : ℕ) → g < n → get_or places g 0 ≡ place (visits (whole groups edge)) (number g)
  pub ends-room : length (visits (whole groups edge)) ≤ length ends
  pub ends-are : (q : ℕ) → q < length (visits (whole groups edge)) → get_or ends q 0 ≡ after (on.parens (whole groups edge) ++ zeros) q
  pub turned-room : length (visits (whole groups edge)) ≤ length turned
  pub turned-are : (q : ℕ) → q < length (visits (whole groups edge)) → get_or turned q 0 ≡ leader (visited (get_or (visits (whole groups edge)) q (node 0)))

module _ {places ends turned : List ℕ} (s : Setting places ends turned) where
  -- the piece g lies within the piece h
  abbrev pub Lies : ℕ → ℕ → Type 0
  Lies g h = Within s.edge (s.number g) (s.number h)

  pub record Row (rows : List ℕ) (h : ℕ) : Type 0 where
    pub sound : (g : ℕ) → g < 2048 → bit_of rows h g ≡ true → (g < s.n) × Lies g h
    pub seeded : (g : ℕ) → g < s.n → s.leader (s.number g) ≡ h → (g ≡ h → ⊥) → bit_of rows h g ≡ true
    pub filled : bit_of rows h h ≡ true → (g : ℕ) → g < s.n → Lies g h → bit_of rows h g ≡ true

  -- all rows below n; and those of groups at the level of h's and deeper
  abbrev pub All : List ℕ → Type 0
  All rows = (r : ℕ) → r < s.n → Row rows r

  abbrev pub level : ℕ → ℕ
  level h = s.book.level (s.number h)

  abbrev pub From : List ℕ → ℕ → Type 0
  From rows h = (r : ℕ) → level h ≤ level r → r < s.n → Row rows r

  -- row h is filled, no row of a higher level is touched, and what is filled stays so
  pub record Filled (rows rows' : List ℕ) (h : ℕ) : Type 0 where
    pub own : bit_of rows' h h ≡ true
    pub from : From rows' h
    pub kept : (r j : ℕ) → level r < level h → j < 2048 → bit_of rows' r j ≡ bit_of rows r j
    pub grown : (r : ℕ) → r < 2048 → bit_of rows r r ≡ true → bit_of rows' r r ≡ true

  -- the rows of the leaders of all pieces below k are filled
  pub record FilledTo (rows : List ℕ) (k : ℕ) : Type 0 where
    pub own : (h : ℕ) → h < k → bit_of rows (s.leader (s.number h)) (s.leader (s.number h)) ≡ true
    pub from : All rows

  -- the list of the pieces' leaders
  abbrev pub Leads : List ℕ → Type 0
  Leads lead = (s.n ≤ length lead) × ((g : ℕ) → g < s.n → get_or lead g 0 ≡ s.leader (s.number g))

-- each piece below k that follows another has a bit in that one's row, and the rows below n have no other bit
pub record Seeded (n k : ℕ) (lead rows : List ℕ) : Type 0 where
  pub bits : (h g : ℕ) → h < n → g < 2048 → (bit_of rows h g ≡ true) ↔ ((g < k) × (get_or lead g 0 ≡ h) × (g ≡ h → ⊥))

pub record Fillable (places ends turned rows : List ℕ) (h : ℕ) : Type 0 where
  pub setting : Setting places ends turned
  pub below : h < setting.n
  pub leads : setting.leader (setting.number h) ≡ h
  pub from : From setting rows h

pub record Ready (n : ℕ) (places ends turned lead rows : List ℕ) : Type 0 where
  pub setting : Setting places ends turned
  pub count : n ≡ setting.n
  pub leads : Leads setting lead
  pub from : All setting rows
