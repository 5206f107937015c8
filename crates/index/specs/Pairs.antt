-- A book as the index sees it: its number of pieces n and its pairs, `fact p c` for "p is a part of the container c". Assumes nothing.
use Rattle.std.specs.Prelude.{◌≡◌, List, Bool, true, not, ◌&&◌, ◌||◌, ℕ, ◌<◌, eqb, ltb, length}
use Rattle.lists.specs.Any.{any_below}
use Rattle.lists.specs.Numbers.{range, keep, sum}

-- each piece but 0 that is nobody's part is joined to 0
unfoldable pub joined : ℕ → (ℕ → ℕ → Bool) → ℕ → ℕ → Bool
joined n fact p c = fact p c || (eqb c 0 && (ltb 0 p && (ltb p n && not (any_below (fact p) n))))

module _ (n : ℕ) (edge : ℕ → ℕ → Bool) where
  -- the parts of c, in rising number
  unfoldable pub parts : ℕ → List ℕ
  parts c = keep (λ p. edge p c) (range 0 n)

  -- how many pairs there are
  unfoldable pub pairs : ℕ
  pairs = sum (λ c. length (parts c)) (range 0 n)

-- what is asked of the pairs with the joins: levels rise from container to part, both are pieces, 0 is nobody's part, and each other piece has a container
pub record Book (n : ℕ) (edge : ℕ → ℕ → Bool) : Type 0 where
  pub some : 0 < n
  pub level : ℕ → ℕ
  pub lower : (p c : ℕ) → edge p c ≡ true → level c < level p
  pub fits : (p : ℕ) → p < n → level p < n
  pub piece : (p c : ℕ) → edge p c ≡ true → p < n
  pub whole : (p c : ℕ) → edge p c ≡ true → c < n
  pub below : (p c : ℕ) → edge p c ≡ true → 0 < p
  pub held : (p : ℕ) → 0 < p → p < n → (c : ℕ) × (edge p c ≡ true)

-- g lies within h: by a path of pairs from g up to h
pub data Within (edge : ℕ → ℕ → Bool) : ℕ → ℕ → Type 0 where
  self : {g : ℕ} → Within edge g g
  step : {g c h : ℕ} → edge g c ≡ true → Within edge c h → Within edge g h
