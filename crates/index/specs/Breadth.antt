-- The breadth-first order from piece 0, and each piece's first container in it. Assumes nothing.
use Rattle.std.specs.Prelude.{Bool, not, List, [], ◌∷◌, ◌++◌, ℕ, zero, suc, ◌-◌}
use Rattle.lists.specs.Numbers.{range, keep, find}

module _ (n : ℕ) (edge : ℕ → ℕ → Bool) where
  -- take c off the queue, and put those of its parts that no one has met yet at the queue's end; k bounds the steps
  unfoldable pub breadth : ℕ → List ℕ → List ℕ → List ℕ
  breadth zero queue unmet = []
  breadth (suc k) [] unmet = []
  breadth (suc k) (c ∷ queue) unmet =
      c ∷ breadth k (queue ++ keep (λ p. edge p c) unmet) (keep (λ p. not (edge p c)) unmet)

  -- the pieces in the order in which they are met, from piece 0
  unfoldable pub order : List ℕ
  order = breadth n (0 ∷ []) (range 1 (n - 1))

  -- where p is met first: its first container in that order
  unfoldable pub parent : ℕ → ℕ
  parent p = find (λ c. edge p c) order
