-- The worked examples of the document: bytes 55 and 6, and the parentheses of the printed session.
-- Assumes nothing.
use mathlib.Core.Path.{◌≡◌, refl}
use mathlib.Core.Bool.{Bool, true, false}
use mathlib.Core.List.{List, [], ◌∷◌}
use lib.IntN.{pos, negsuc}
use Rattle.lists.specs.Tab.{tab}
use Rattle.lists.specs.First.{first}
use Rattle.parentheses.specs.Bits.{digit, bit_of, bits}
use Rattle.parentheses.specs.Rank.{rank, select}
use Rattle.parentheses.specs.Close.{excess, balanced, close}
use Rattle.parentheses.specs.Subtree.{after}
use Rattle.parentheses.specs.Enclose.{last, opens, enclosing}
use Rattle.std.specs.Prelude.{Some, None}
use Rattle.parentheses.specs.Tables.{ones_of, lower, lowest, lowest_of}

-- ones and the lowest excess of 55 and 6: 5 and 1, 2 and -4
tables : (ones_of 55 ≡ 5) × (lowest_of 55 ≡ pos 1) × (ones_of 6 ≡ 2) × (lowest_of 6 ≡ negsuc 3)
unfolding digit bit_of bits rank ones_of excess lower lowest lowest_of tab
tables = (refl, refl, refl, refl)

abbrev session : List Bool
session = true ∷ true ∷ true ∷ false ∷ true ∷ true ∷ false ∷ false ∷ false ∷ true ∷ true ∷ false ∷ false ∷ false ∷ false ∷ false ∷ []

packed : bits (55 ∷ 6 ∷ []) ≡ session
unfolding digit bit_of bits tab
packed = refl

-- the closing places of the seven nodes
closes : (close session 0 ≡ 13) × (close session 1 ≡ 8) × (close session 2 ≡ 3) × (close session 4 ≡ 7) × (close session 5 ≡ 6)
    × (close session 9 ≡ 12) × (close session 10 ≡ 11)
unfolding rank balanced close first
closes = (refl, refl, refl, refl, refl, refl, refl)

-- where the nodes at places 3, 5 and 6 open; there is no eighth
opened : (select session 3 ≡ 4) × (select session 5 ≡ 9) × (select session 6 ≡ 10) × (select session 7 ≡ 16)
unfolding rank select first
opened = (refl, refl, refl, refl)

-- the first place past the subtree of each node
ranges : (after session 0 ≡ 7) × (after session 1 ≡ 5) × (after session 2 ≡ 3) × (after session 3 ≡ 5) × (after session 4 ≡ 5) × (after session 5 ≡ 7)
    × (after session 6 ≡ 7)
unfolding rank select balanced close first after
ranges = (refl, refl, refl, refl, refl, refl, refl)

-- what encloses the nodes that open at 0, 5 and 10
encloses : (enclosing session 0 ≡ None) × (enclosing session 5 ≡ Some 4) × (enclosing session 10 ≡ Some 9)
unfolding rank enclosing last opens
encloses = (refl, refl, refl)
