-- Containment over the parts of the index alone. Assumes nothing.
use Rattle.std.specs.Prelude.{◌≡◌, Bool, true, false, List, ℕ, ◌≤◌, ◌<◌, get_or}
use Rattle.parentheses.specs.Rank.{rank}
use Rattle.parentheses.specs.Subtree.{after}

-- the place q is at or below the place p, or at or below a place that a shadow at or below p stands for, and so on
pub data Inside (parens marks : List Bool) (targets : List ℕ) : ℕ → ℕ → Type 0 where
  below : {p q : ℕ} → p ≤ q → q < after parens p → Inside parens marks targets p q
  through : {p q : ℕ} (s : ℕ) → p ≤ s → s < after parens p → get_or marks s false ≡ true
      → Inside parens marks targets (get_or targets (rank marks s) 0) q → Inside parens marks targets p q
