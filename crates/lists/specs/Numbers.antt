-- Lists of numbers: a run of them, those that pass a test, the first that does, and a sum over them. Assumes nothing.
use Rattle.std.specs.Prelude.{Bool, true, false, List, [], ◌∷◌, ℕ, ◌+◌}
use Rattle.lists.specs.Tab.{tab}

-- k, k + 1, .. : m numbers
unfoldable pub range : ℕ → ℕ → List ℕ
range k m = tab (λ i. i) k m

-- those that pass a test, in the same order
unfoldable pub keep : (ℕ → Bool) → List ℕ → List ℕ
keep f [] = []
keep f (x ∷ xs) = elim (f x) [ true ↦ x ∷ keep f xs | false ↦ keep f xs ]

-- the first that passes, or 0
unfoldable pub find : (ℕ → Bool) → List ℕ → ℕ
find f [] = 0
find f (x ∷ xs) = elim (f x) [ true ↦ x | false ↦ find f xs ]

unfoldable pub sum : (ℕ → ℕ) → List ℕ → ℕ
sum g [] = 0
sum g (x ∷ xs) = g x + sum g xs
