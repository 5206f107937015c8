-- In the parentheses of a forest, the range of a node is as many places as its tree has visits. Assumes nothing.
use mathlib.Core.Path.{◌≡◌, refl, ◌∙◌}
use mathlib.Core.Bool.{Bool, true, false}
use mathlib.Core.List.{List, ◌∷◌, ◌++◌}
use Prim.Native.Nat.{suc, ◌+◌}
use native.Mathlib.Omega.{arith}
use lib.ListN.{length, length-append}
use Rattle.parentheses.specs.Forest.{enc, size}
use Rattle.parentheses.specs.Subtree.{after}
use Rattle.parentheses.proofs.Trees.{ones, ones-enc, dyck-enc, after_is}
use Rattle.index.specs.Tree.{Forest, end, tree, visits}
use Rattle.index.specs.Parts.{shape, parens}

size-shape : (F : Forest) → size (shape F) ≡ length (visits F)
unfolding shape size visits
size-shape end = refl
size-shape (tree v F G) = omega (arith, length-append (visits F) (visits G), size-shape F, size-shape G)

pub ones-parens : (F : Forest) → ones (parens F) ≡ length (visits F)
unfolding parens
ones-parens F = ones-enc (shape F) ∙ size-shape F

-- a parenthesis for each node's entering and leaving
pub parens-length : (F : Forest) → length (parens F) ≡ length (visits F) + length (visits F)
unfolding parens
parens-length F = omega (arith, (dyck-enc (shape F)).even, ones-parens F)

pub after-at : (a z : List Bool) (F : Forest) → after (a ++ (true ∷ (parens F ++ (false ∷ z)))) (ones a) ≡ ones a + suc (length (visits F))
unfolding parens
after-at a z F = after_is a (enc (shape F)) z (dyck-enc (shape F)) ∙ omega (arith, ones-parens F)
