-- The four parts of the index, and how they stand in lent bytes and numbers. Assumes nothing.
use Rattle.std.specs.Prelude.{Bool, true, false, List, [], ◌∷◌, map, ℕ, suc, ◌+◌, ◌*◌, eqb, take, drop}
use Rattle.lists.specs.Tab.{tab}
use Rattle.lists.specs.Tally.{num}
use Rattle.parentheses.specs.Forest as on
use Rattle.parentheses.specs.Forest.{enc}
use Rattle.index.specs.Tree.{Visit, node, shadow, Forest, end, tree}

-- ---- parentheses: 1 on entering a node, 0 on leaving

unfoldable pub shape : Forest → on.Forest
shape end = on.none
shape (tree v below after) = on.node (shape below) (shape after)

unfoldable pub parens : Forest → List Bool
parens f = enc (shape f)

-- ---- marks: 1 for a shadow

unfoldable pub is_shadow : Visit → Bool
is_shadow (node p) = false
is_shadow (shadow p) = true

unfoldable pub marks : List Visit → List Bool
marks vs = map is_shadow vs

-- ---- places

unfoldable pub is_node : ℕ → Visit → Bool
is_node p (node q) = eqb p q
is_node p (shadow q) = false

-- the place of the node of p
unfoldable pub place : List Visit → ℕ → ℕ
place [] p = 0
place (v ∷ vs) p = elim (is_node p v) [ true ↦ 0 | false ↦ suc (place vs p) ]

-- the pieces of the shadows, in order; and the shadow list, the places of their nodes
unfoldable pub shadows : List Visit → List ℕ
shadows [] = []
shadows (node p ∷ vs) = shadows vs
shadows (shadow p ∷ vs) = p ∷ shadows vs

unfoldable pub shadow_list : List Visit → List ℕ
shadow_list vs = map (place vs) (shadows vs)

-- the place list, for the pieces below n
unfoldable pub place_list : ℕ → List Visit → List ℕ
place_list n vs = tab (place vs) 0 n

-- ---- in lent bytes: what is unused is zero

-- the bits as a number, the first at the lowest weight
unfoldable pub value : List Bool → ℕ
value [] = 0
value (b ∷ bs) = num b + 2 * value bs

-- bits in `len` bytes: bit k is in byte k / 8 at weight 2 to the power k mod 8
unfoldable pub packed : ℕ → List Bool → List ℕ
packed len bs = tab (λ j. value (take 8 (drop (8 * j) bs))) 0 len
