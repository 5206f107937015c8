-- The bits of the stored facts: row x, column y. Assumes nothing.
use Rattle.std.specs.Prelude.{ℕ, Bool, true, false, not, ◌&&◌, ◌||◌, List, eqb, ltb, get_or}
use Rattle.rules.specs.Fact.{Fact}
use Rattle.rules.specs.Follows.{storing}

-- a stored fact of kind k has the pieces x and y in this order (asked where `straight`), or in the other (where `swapped`)
unfoldable pub stored_bit : List Fact → ℕ → Bool → Bool → ℕ → ℕ → Bool
stored_bit fs k straight swapped x y = storing fs k (λ a b. (straight && (eqb a x && eqb b y)) || (swapped && (eqb a y && eqb b x)))

-- x and y are one piece below n that is not marked, or a stored MEETS has them
unfoldable pub meet_bit : (ℕ → Bool) → ℕ → List Fact → ℕ → ℕ → Bool
meet_bit void n fs x y = (eqb x y && (ltb x n && not (void x))) || stored_bit fs 3 true true x y

-- the steps of containment, row by container: y PART x is stored, or x is piece 0, of which every other piece is part
unfoldable pub edge_bit : ℕ → List Fact → ℕ → ℕ → Bool
edge_bit n fs x y = stored_bit fs 1 false true x y || (eqb x 0 && (ltb 0 y && ltb y n))

-- a PART of the pieces a and b is a step from x to y between their leaders
unfoldable pub stepping : List ℕ → ℕ → ℕ → ℕ → ℕ → Bool
stepping lead x y a b = not (eqb (get_or lead a 0) (get_or lead b 0)) && (eqb (get_or lead b 0) x && eqb (get_or lead a 0) y)

-- the steps between leaders: by a stored PART, or from piece 0 to every other leader
unfoldable pub step_bit : ℕ → List Fact → List ℕ → ℕ → ℕ → Bool
step_bit n fs lead x y = storing fs 1 (stepping lead x y) || (eqb x 0 && (ltb 0 y && (ltb y n && eqb (get_or lead y 0) y)))
