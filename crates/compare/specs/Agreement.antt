-- The three bytes of a claim: both answers, and how they stand to each other. Assumes nothing.
use Rattle.std.specs.Prelude.{ℕ, zero, suc, true, false, ◌||◌, List, [], ◌∷◌, ◌++◌, eqb}

-- 1 SAME, 2 ONE OPEN, 3 OPPOSED
unfoldable pub agreement : ℕ → ℕ → ℕ
agreement x y = elim (eqb x y) [ true ↦ 1 | false ↦ elim (eqb x 3 || eqb y 3) [ true ↦ 2 | false ↦ 3 ] ]

-- those of the first n claims
unfoldable pub threes : (ℕ → ℕ) → (ℕ → ℕ) → ℕ → List ℕ
threes f g zero = []
threes f g (suc n) = threes f g n ++ (f n ∷ g n ∷ agreement (f n) (g n) ∷ [])
