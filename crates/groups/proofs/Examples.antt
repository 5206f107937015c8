-- Small books with circles, by computation. Assumes nothing.
use mathlib.Core.Path.{◌≡◌, refl}
use mathlib.Core.Bool.{Bool, ◌&&◌}
use mathlib.Core.List.{List, [], ◌∷◌}
use Prim.Native.Nat.{ℕ}
use lib.Dec.{eqb}
use Rattle.lists.specs.Any.{any, any_below}
use Rattle.lists.specs.First.{first}
use Rattle.lists.specs.Tab.{tab}
use Rattle.lists.specs.Tally.{tally}
use Rattle.lists.specs.Numbers.{range, keep, find}
use Rattle.rules.specs.Follows.{table, entry, rounds}
use Rattle.parentheses.specs.Forest.{enc}
use Rattle.parentheses.specs.Padded.{padded}
use Rattle.index.specs.Pairs.{joined, parts}
use Rattle.index.specs.Breadth.{breadth, order, parent}
use Rattle.index.specs.Tree.{hang, under, whole, visits}
use Rattle.index.specs.Parts.{shape, parens, is_node, is_shadow, place, marks, shadows, shadow_list, value, packed}
use Rattle.index.specs.Index.{parentheses_of, visits_of}
use Rattle.groups.specs.Groups.{lies, same, lowest, first_of, number, groups, pair}
use Rattle.groups.specs.Index.{edges, book_parens, book_visits, book_places, BookIndex}

-- pairs in a list
listed : List (ℕ × ℕ) → ℕ → ℕ → Bool
listed xs p c = any (λ x. eqb x.0 p && eqb x.1 c) xs

-- PART 1 2, PART 2 1, PART 3 1: pieces 1 and 2 are one group, and 3 is in it
circle : ℕ → ℕ → Bool
circle = listed ((1, 2) ∷ (2, 1) ∷ (3, 1) ∷ [])

circle-numbers : tab (number 4 circle) 0 4 ≡ 0 ∷ 1 ∷ 1 ∷ 2 ∷ []
unfolding tab tally first number first_of lowest same lies entry rounds table circle listed any
circle-numbers = refl

circle-groups : groups 4 circle ≡ 3
unfolding tab tally first groups first_of lowest same lies entry rounds table circle listed any
circle-groups = refl

-- in lent parts of 2 bytes, 1 byte, 1 number and 5 numbers
circle-index : BookIndex 4 circle (7 ∷ 0 ∷ []) (0 ∷ []) (0 ∷ []) (0 ∷ 1 ∷ 1 ∷ 2 ∷ 0 ∷ []) 3 0
unfolding range tab tally keep any any_below find first number groups first_of lowest same lies entry rounds table pair edges joined parts breadth order parent hang under whole shape enc parens visits value packed padded marks is_shadow shadow_list shadows is_node place parentheses_of visits_of book_parens book_visits book_places circle listed
circle-index = record { parens-are = refl; marks-are = refl; shadows-are = refl; places-are = refl; nodes-are = refl; shadowed-are = refl }

-- PART 0 3, PART 3 0, PART 1 1, PART 2 4, PART 4 1: piece 3 is the whole, 1 alone stands in it, then 4, then 2
turned : ℕ → ℕ → Bool
turned = listed ((0, 3) ∷ (3, 0) ∷ (1, 1) ∷ (2, 4) ∷ (4, 1) ∷ [])

turned-numbers : tab (number 5 turned) 0 5 ≡ 0 ∷ 1 ∷ 2 ∷ 0 ∷ 3 ∷ []
unfolding tab tally first number first_of lowest same lies entry rounds table turned listed any
turned-numbers = refl
