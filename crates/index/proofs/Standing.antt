-- The node of a piece stands at its place, and nowhere else. Assumes nothing.
use mathlib.Core.Path.{◌≡◌, refl, ap, ◌∙◌}
use mathlib.Core.Logic.{◌⊎◌, inl, inr}
use mathlib.Core.Bool.{Bool, true, false}
use mathlib.Core.List.{List, [], ◌∷◌, ◌++◌}
use Prim.Native.Nat.{ℕ, zero, suc, ◌≤◌, ◌<◌}
use native.Mathlib.Omega.{arith}
use lib.ListN.{length, get_or, length-append}
use lib.Seq.{get_or-append_seam}
use borrow.Author.Tests.{eq-eqb}
use Rattle.lists.proofs.Numbers.{which}
use Rattle.index.specs.Pairs.{Book}
use Rattle.index.specs.Tree.{Visit, node, under, whole, visits}
use Rattle.index.specs.Parts.{is_node, place}
use Rattle.index.proofs.Nodes.{times}
use Rattle.index.proofs.Places.{stand, stand-place}

abbrev at : List Visit → ℕ → Visit
at vs s = get_or vs s (node 0)

-- if it stands once
times-at : (g : ℕ) (vs : List Visit) (s : ℕ) → s < length vs → at vs s ≡ node g → 1 ≤ times g vs
unfolding times is_node
times-at g [] s l e = absurd (omega arith)
times-at g (v ∷ vs) zero l e = rw (e, eq-eqb g g refl) (omega arith)
times-at g (v ∷ vs) (suc s) l e = omega (arith, times-at g vs s (omega arith) e)

pub place-only : (g : ℕ) (vs : List Visit) (s : ℕ) → times g vs ≡ 1 → s < length vs → at vs s ≡ node g → place vs g ≡ s
unfolding times is_node place
place-only g [] s t l e = absurd (omega arith)
place-only g (v ∷ vs) zero t l e = rw (e, eq-eqb g g refl, place)
place-only g (v ∷ vs) (suc s) t l e = go (which (is_node g v)) (λ (u : times g vs ≡ 1). place-only g vs s u (omega arith) e)
  where
    go : (is_node g v ≡ true) ⊎ (is_node g v ≡ false) → (times g vs ≡ 1 → place vs g ≡ s) → place (v ∷ vs) g ≡ suc s
    go (inl w) r = absurd (omega (arith, rw w at t, times-at g vs s (omega arith) e))
    go (inr w) r = rw (w, place) (ap suc (r (omega (arith, rw w at t))))

module _ (n : ℕ) (edge : ℕ → ℕ → Bool) (B : Book n edge) where
  abbrev W : List Visit
  W = visits (whole n edge)

  pub node_at : (g : ℕ) → g < n → at W (place W g) ≡ node g
  node_at g l = let S = stand n edge B g l in
      rw (stand-place n edge B g l S) (ap (λ (vs : List Visit). at vs (length S.before)) S.visited
      ∙ get_or-append_seam S.before (node g) (visits (under n edge S.deep g) ++ S.beyond) (node 0))

  pub place-small : (g : ℕ) → g < n → place W g < length W
  place-small g l = let S = stand n edge B g l in
      omega (arith, stand-place n edge B g l S, ap length S.visited, length-append S.before (node g ∷ (visits (under n edge S.deep g) ++ S.beyond)))
