-- How many nodes and shadows the tree of a book has: one visit for each edge, and one for piece 0; n of them are nodes. Assumes nothing.
use mathlib.Core.Path.{◌≡◌, refl, sym, ap, ◌∙◌}
use mathlib.Core.Logic.{◌⊎◌, inl, inr}
use mathlib.Core.Bool.{Bool, true, false}
use mathlib.Core.List.Memᴰ
use mathlib.Core.List.Memᴰ.{head as here}
use mathlib.Core.List.Memᴰ.{tail as there}
use mathlib.Core.List.{List, [], ◌∷◌, ◌++◌}
use Prim.Native.Nat.{ℕ, zero, suc, ◌+◌, ◌*◌, ◌≤◌, ◌<◌}
use native.Mathlib.Omega.{arith}
use lib.Dec.{eqb}
use lib.ListN.{length, length-append}
use Rattle.lists.specs.Tally.{num}
use Rattle.lists.specs.Numbers.{sum, range}
use Rattle.index.specs.Breadth.{parent}
use Rattle.index.specs.Tree.{Visit, node, shadow, Forest, hang, under, whole, visits}
use Rattle.index.specs.Parts.{is_node, shadows}
use Rattle.lists.proofs.Numbers.{◌∈◌, which, range-mem}
use Rattle.lists.proofs.Sums.{sum-eq, sum-add, sum-none, sum-at, sum_ones}
use Rattle.index.specs.Pairs.{parts, pairs, Book}
use Rattle.index.proofs.Nodes.{times, hang-node, hang-shadow, parts-mem, once}
use Rattle.index.proofs.Below.{piece, under-mem}

-- g summed over the pieces of the nodes
unfoldable pub total : (ℕ → ℕ) → List Visit → ℕ
total g [] = 0
total g (node p ∷ vs) = g p + total g vs
total g (shadow p ∷ vs) = total g vs

pub total-append : (g : ℕ → ℕ) (xs ys : List Visit) → total g (xs ++ ys) ≡ total g xs + total g ys
unfolding total
total-append g [] ys = omega arith
total-append g (node p ∷ xs) ys = omega (arith, total-append g xs ys)
total-append g (shadow p ∷ xs) ys = total-append g xs ys

-- over a list of visits, node by node or piece by piece
total-sum : (g : ℕ → ℕ) (n : ℕ) (vs : List Visit) → ((v : Visit) → v ∈ vs → piece v < n) → total g vs ≡ sum (λ p. times p vs * g p) (range 0 n)
unfolding total times piece is_node
total-sum g n [] h = sym (sum-none (λ p. 0 * g p) (range 0 n) (λ x m. omega arith))
total-sum g n (node q ∷ vs) h =
    omega (
      arith,
      total-sum g n vs (λ v m. h v (there m)),
      sum-at g q 0 n (omega arith) (omega (arith, h (node q) (here refl))),
      sum-add (λ p. num (eqb p q) * g p) (λ p. times p vs * g p) (range 0 n),
      sum-eq (λ p. (num (eqb p q) + times p vs) * g p) (λ p. num (eqb p q) * g p + times p vs * g p) (range 0 n) (λ x m. omega arith),
    )
total-sum g n (shadow q ∷ vs) h =
    total-sum g n vs (λ v m. h v (there m)) ∙ sum-eq (λ p. times p vs * g p) (λ p. (0 + times p vs) * g p) (range 0 n) (λ x m. omega arith)

-- a visit is at a node or at a shadow
pub node-or-shadow : (vs : List Visit) → total (λ p. 1) vs + length (shadows vs) ≡ length vs
unfolding total shadows
node-or-shadow [] = refl
node-or-shadow (node p ∷ vs) = omega (arith, node-or-shadow vs)
node-or-shadow (shadow p ∷ vs) = omega (arith, node-or-shadow vs)

-- ## The tree

module _ (n : ℕ) (edge : ℕ → ℕ → Bool) where
  -- how many parts c has
  unfoldable pub degree : ℕ → ℕ
  degree c = length (parts n edge c)

  module _ (B : Book n edge) where
    -- below c: a visit for each part of c, and for each part of each node there
    size-hang : (below : ℕ → Forest) (c : ℕ) (qs : List ℕ)
        → ((q : ℕ) → q ∈ qs → length (visits (below q)) ≡ degree q + total degree (visits (below q)))
        → length (visits (hang n edge below c qs)) ≡ length qs + total degree (visits (hang n edge below c qs))
    unfolding hang visits total
    size-hang below c [] h = refl
    size-hang below c (q ∷ qs) h = go (which (eqb (parent n edge q) c)) (size-hang below c qs (λ x m. h x (there m)))
      where
        rest : Forest
        rest = hang n edge below c qs

        go : (eqb (parent n edge q) c ≡ true) ⊎ (eqb (parent n edge q) c ≡ false) → length (visits rest) ≡ length qs + total degree (visits rest)
            → length (visits (hang n edge below c (q ∷ qs))) ≡ length (q ∷ qs) + total degree (visits (hang n edge below c (q ∷ qs)))
        go (inl e) r = rw (hang-node n edge below c q qs e)
            (omega (arith, h q (here refl), length-append (visits (below q)) (visits rest), total-append degree (visits (below q)) (visits rest)))
        go (inr e) r = rw (hang-shadow n edge below c q qs e) (omega arith)

    size-under : (k c : ℕ) → n ≤ B.level c + k → length (visits (under n edge k c)) ≡ degree c + total degree (visits (under n edge k c))
    unfolding under visits total degree
    size-under zero c l = omega (arith, none (parts n edge c) (λ q m. omega (arith, B.lower q c (parts-mem n edge B c m), B.fits q (B.piece q c (parts-mem n edge B c m)))))
      where
        none : (qs : List ℕ) → ((q : ℕ) → q ∈ qs → ⊥) → length qs ≡ 0
        none [] h = refl
        none (q ∷ qs) h = absurd (h q (here refl))
    size-under (suc k) c l =
        size-hang (under n edge k) c (parts n edge c) (λ q m. size-under k q (omega (arith, B.lower q c (parts-mem n edge B c m))))

    pub pieces : (v : Visit) → v ∈ visits (whole n edge) → piece v < n
    unfolding whole visits piece
    pieces v m = top (Memᴰ.cases_cons m)
      where
        deep : (v ∈ visits (under n edge n 0)) ⊎ (v ∈ []) → piece v < n
        deep (inl i) = let f = under-mem n edge B n 0 i in B.piece (piece v) f.0 f.1
        deep (inr i) = absurd (Memᴰ.not-nil i)

        top : (v ≡ node 0) ⊎ (v ∈ visits (under n edge n 0) ++ []) → piece v < n
        top (inl w) = omega (arith, ap piece w, B.some)
        top (inr i) = deep (Memᴰ.append_cases (visits (under n edge n 0)) i)

    -- summed over the nodes is summed over the pieces
    over-pieces : (g : ℕ → ℕ) → total g (visits (whole n edge)) ≡ sum g (range 0 n)
    over-pieces g =
        total-sum g n (visits (whole n edge)) pieces
        ∙ sum-eq (λ p. times p (visits (whole n edge)) * g p) g (range 0 n)
        (λ x m. let b = range-mem 0 n m in rw (once n edge B x (omega arith)) (omega arith))

    -- THE COUNTS
    pub visit-count : length (visits (whole n edge)) ≡ 1 + pairs n edge
    unfolding pairs degree
    visit-count = omega (arith, over-pieces degree, whole-size, whole-total, size-under n 0 (omega arith))
      where
        whole-size : length (visits (whole n edge)) ≡ 1 + length (visits (under n edge n 0))
        whole-size = unfold whole visits in omega (arith, length-append (visits (under n edge n 0)) [])

        whole-total : total degree (visits (whole n edge)) ≡ degree 0 + total degree (visits (under n edge n 0))
        whole-total = unfold whole visits total in omega (arith, total-append degree (visits (under n edge n 0)) [])

    pub shadow-count : n + length (shadows (visits (whole n edge))) ≡ 1 + pairs n edge
    shadow-count = omega (arith, visit-count, node-or-shadow (visits (whole n edge)), over-pieces (λ p. 1), sum_ones 0 n)
