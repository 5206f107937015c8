-- The tree with shadows, and the visits of its nodes depth first. Assumes nothing.
use Rattle.std.specs.Prelude.{Bool, true, false, List, [], ◌∷◌, ◌++◌, ℕ, zero, suc, eqb}
use Rattle.index.specs.Pairs.{parts}
use Rattle.index.specs.Breadth.{parent}

-- a visit: of the node of a piece, or of a shadow of it
pub data Visit : Type 0 where
  node shadow : ℕ → Visit

-- trees in a row: the first one's root, what hangs below that root, and the trees after it
pub data Forest : Type 0 where
  end : Forest
  tree : Visit → Forest → Forest → Forest

module _ (n : ℕ) (edge : ℕ → ℕ → Bool) where
  -- what hangs from c: a part that is met first at c is a node, with what is below it; any other leaves a shadow
  unfoldable pub hang : (ℕ → Forest) → ℕ → List ℕ → Forest
  hang below c [] = end
  hang below c (p ∷ ps) =
      elim (eqb (parent n edge p) c) [ true ↦ tree (node p) (below p) (hang below c ps) | false ↦ tree (shadow p) end (hang below c ps) ]

  -- all that is below c, to depth k
  unfoldable pub under : ℕ → ℕ → Forest
  under zero c = end
  under (suc k) c = hang (under k) c (parts n edge c)

  unfoldable pub whole : Forest
  whole = tree (node 0) (under n 0) end

-- the nodes and shadows in depth-first order; a visit's place is its place in this list
unfoldable pub visits : Forest → List Visit
visits end = []
visits (tree v below after) = v ∷ visits below ++ visits after
