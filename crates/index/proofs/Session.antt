-- The printed session's book: its index, by computation. Assumes nothing.
use mathlib.Core.Path.{◌≡◌, refl}
use mathlib.Core.Bool.{Bool, ◌&&◌}
use mathlib.Core.List.{List, [], ◌∷◌}
use Prim.Native.Nat.{ℕ}
use lib.Dec.{eqb}
use Rattle.lists.specs.Any.{any, any_below}
use Rattle.lists.specs.Tab.{tab}
use Rattle.parentheses.specs.Forest.{enc}
use Rattle.parentheses.specs.Padded.{padded}
use Rattle.lists.specs.Numbers.{range, keep, find}
use Rattle.index.specs.Pairs.{joined, parts}
use Rattle.index.specs.Breadth.{breadth, order, parent}
use Rattle.index.specs.Tree.{hang, under, whole, visits}
use Rattle.index.specs.Parts.{shape, parens, is_node, is_shadow, place, marks, shadows, shadow_list, place_list, value, packed}
use Rattle.index.specs.Index.{parentheses_of, visits_of, Indexed}

-- pairs in a list
listed : List (ℕ × ℕ) → ℕ → ℕ → Bool
listed xs p c = any (λ x. eqb x.0 p && eqb x.1 c) xs

bit : ℕ → Bool
bit n = eqb n 1

bits_of : List ℕ → List Bool
bits_of [] = []
bits_of (x ∷ xs) = bit x ∷ bits_of xs

-- PART 1 0, 2 0, 3 1, 4 1, 4 2, 5 4
book : ℕ → ℕ → Bool
book = joined 6 (listed ((1, 0) ∷ (2, 0) ∷ (3, 1) ∷ (4, 1) ∷ (4, 2) ∷ (5, 4) ∷ []))

parentheses-are : parentheses_of 6 book ≡ bits_of (1 ∷ 1 ∷ 1 ∷ 0 ∷ 1 ∷ 1 ∷ 0 ∷ 0 ∷ 0 ∷ 1 ∷ 1 ∷ 0 ∷ 0 ∷ 0 ∷ [])
unfolding range tab keep any any_below find joined parts breadth order parent hang under whole shape enc parens visits book listed bit bits_of parentheses_of
parentheses-are = refl

-- in lent parts of 3 bytes, 2 bytes, 2 numbers and 7 numbers
session : Indexed 6 book (55 ∷ 6 ∷ 0 ∷ []) (64 ∷ 0 ∷ []) (3 ∷ 0 ∷ []) (0 ∷ 1 ∷ 5 ∷ 2 ∷ 3 ∷ 4 ∷ 0 ∷ []) 7 1
unfolding range tab keep any any_below find joined parts breadth order parent hang under whole shape enc parens visits book listed value packed padded marks is_shadow shadow_list place_list shadows is_node place parentheses_of visits_of
session = record { parens-are = refl; marks-are = refl; shadows-are = refl; places-are = refl; nodes-are = refl; shadowed-are = refl }

-- A second book, in which a shadow comes before the node that it stands for: PART 1 0, 2 0, 3 1, 4 2, 4 3; piece 5 is joined to 0.
second-book : ℕ → ℕ → Bool
second-book = joined 6 (listed ((1, 0) ∷ (2, 0) ∷ (3, 1) ∷ (4, 2) ∷ (4, 3) ∷ []))

second-parentheses : parentheses_of 6 second-book ≡ bits_of (1 ∷ 1 ∷ 1 ∷ 1 ∷ 0 ∷ 0 ∷ 0 ∷ 1 ∷ 1 ∷ 0 ∷ 0 ∷ 1 ∷ 0 ∷ 0 ∷ [])
unfolding range tab keep any any_below find joined parts breadth order parent hang under whole shape enc parens visits second-book listed bit bits_of parentheses_of
second-parentheses = refl

second : Indexed 6 second-book (143 ∷ 9 ∷ []) (8 ∷ []) (5 ∷ []) (0 ∷ 1 ∷ 4 ∷ 2 ∷ 5 ∷ 6 ∷ []) 7 1
unfolding range tab keep any any_below find joined parts breadth order parent hang under whole shape enc parens visits second-book listed value packed padded marks is_shadow shadow_list place_list shadows is_node place parentheses_of visits_of
second = record { parens-are = refl; marks-are = refl; shadows-are = refl; places-are = refl; nodes-are = refl; shadowed-are = refl }
