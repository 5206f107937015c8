-- Where the tree of a piece stands in the whole: its visits are a run of places that starts at its node's, and its bits a balanced run. Assumes nothing.
use mathlib.Core.Path.{◌≡◌, refl, sym, ap, ◌∙◌}
use mathlib.Core.Logic.{◌⊎◌, inl, inr}
use mathlib.Core.Bool.{Bool, true, false}
use mathlib.Core.List.Memᴰ
use mathlib.Core.List.{List, [], ◌∷◌, ◌++◌, append_assoc}
use Prim.Native.Nat.{ℕ, zero, suc, ◌+◌, ◌≤◌, ◌<◌}
use native.Mathlib.Omega.{arith}
use lib.Dec.{eqb}
use Rattle.parentheses.specs.Forest.{enc}
use Rattle.index.specs.Parts.{shape}
use lib.ListN.{length, length-append}
use borrow.Author.Tests.{eq-eqb}
use Rattle.index.specs.Breadth.{parent}
use Rattle.index.specs.Tree.{Visit, node, Forest, hang, under, whole, visits}
use Rattle.index.specs.Parts.{parens, is_node, place}
use Rattle.lists.proofs.Numbers.{◌∈◌, which}
use Rattle.lists.specs.Tally.{num}
use Rattle.parentheses.specs.Rank.{rank}
use Rattle.parentheses.specs.Subtree.{after}
use Rattle.parentheses.proofs.Trees.{rank-cons, ones, ones-append}
use Rattle.index.specs.Pairs.{parts, Book}
use Rattle.index.proofs.Reached.{parent-edge}
use Rattle.index.proofs.Nodes.{times, times-append, hang-node, hang-shadow, mem-parts, once}
use Rattle.index.proofs.Ranges.{ones-parens, after-at}

-- ## Lists

-- a list is cut at a member
cut : {x : ℕ} (l : List ℕ) → x ∈ l → (a : List ℕ) × (z : List ℕ) × (l ≡ a ++ (x ∷ z))
cut [] m = absurd (Memᴰ.not-nil m)
cut {x} (y ∷ l) m = go (Memᴰ.cases_cons m) (λ (i : x ∈ l). cut l i)
  where
    go : (x ≡ y) ⊎ (x ∈ l) → (x ∈ l → (a : List ℕ) × (z : List ℕ) × (l ≡ a ++ (x ∷ z))) → (a : List ℕ) × (z : List ℕ) × (y ∷ l ≡ a ++ (x ∷ z))
    go (inl e) r = ([], l, ap (λ w. w ∷ l) (sym e))
    go (inr i) r = let c = r i in (y ∷ c.0, c.1, ap (λ w. y ∷ w) c.2)

regroup : {X : Type 0} (x y : X) (a l f r z : List X) → a ++ (x ∷ ((l ++ (y ∷ (f ++ r))) ++ z)) ≡ (a ++ (x ∷ l)) ++ (y ∷ (f ++ (r ++ z)))
regroup x y a l f r z = simp append_assoc

-- the place of a node that does not stand before
place_at : (h : ℕ) (a z : List Visit) → times h a ≡ 0 → place (a ++ (node h ∷ z)) h ≡ length a
unfolding place is_node times
place_at h [] z t = rw (eq-eqb h h refl, place)
place_at h (v ∷ a) z t = go (which (is_node h v)) (λ (s : times h a ≡ 0). place_at h a z s)
  where
    go : (is_node h v ≡ true) ⊎ (is_node h v ≡ false) → (times h a ≡ 0 → place (a ++ (node h ∷ z)) h ≡ length a) → place (v ∷ (a ++ (node h ∷ z))) h ≡ suc (length a)
    go (inl e) r = absurd (omega (arith, rw e at t))
    go (inr e) r = rw (e, place) (ap suc (r (omega (arith, rw e at t))))

-- ## What hangs from a list of parts

module _ (n : ℕ) (edge : ℕ → ℕ → Bool) where
  module _ (below : ℕ → Forest) (c : ℕ) where
    visits-hang : (l r : List ℕ) → visits (hang n edge below c (l ++ r)) ≡ visits (hang n edge below c l) ++ visits (hang n edge below c r)
    unfolding hang visits
    visits-hang [] r = refl
    visits-hang (q ∷ l) r = go (which (eqb (parent n edge q) c)) (visits-hang l r)
      where
        L : List Visit
        L = visits (hang n edge below c l)

        R : List Visit
        R = visits (hang n edge below c r)

        go : (eqb (parent n edge q) c ≡ true) ⊎ (eqb (parent n edge q) c ≡ false) → visits (hang n edge below c (l ++ r)) ≡ L ++ R
            → visits (hang n edge below c (q ∷ (l ++ r))) ≡ visits (hang n edge below c (q ∷ l)) ++ R
        go (inl e) i = rw (hang-node n edge below c q (l ++ r) e, hang-node n edge below c q l e, i) (ap (λ w. node q ∷ w) (sym (append_assoc (visits (below q)) L R)))
        go (inr e) i = rw (hang-shadow n edge below c q (l ++ r) e, hang-shadow n edge below c q l e, i)

    parens-hang : (l r : List ℕ) → parens (hang n edge below c (l ++ r)) ≡ parens (hang n edge below c l) ++ parens (hang n edge below c r)
    unfolding hang parens shape enc
    parens-hang [] r = refl
    parens-hang (q ∷ l) r = go (which (eqb (parent n edge q) c)) (parens-hang l r)
      where
        L : List Bool
        L = parens (hang n edge below c l)

        R : List Bool
        R = parens (hang n edge below c r)

        go : (eqb (parent n edge q) c ≡ true) ⊎ (eqb (parent n edge q) c ≡ false) → parens (hang n edge below c (l ++ r)) ≡ L ++ R
            → parens (hang n edge below c (q ∷ (l ++ r))) ≡ parens (hang n edge below c (q ∷ l)) ++ R
        go (inl e) i = rw (hang-node n edge below c q (l ++ r) e, hang-node n edge below c q l e, i) (ap (λ w. true ∷ w) (sym (append_assoc (parens (below q)) (false ∷ L) R)))
        go (inr e) i = rw (hang-shadow n edge below c q (l ++ r) e, hang-shadow n edge below c q l e, i)

    -- at a part that is a node
    module _ (h : ℕ) (l r : List ℕ) (e : eqb (parent n edge h) c ≡ true) where
      visits-cut : visits (hang n edge below c (l ++ (h ∷ r))) ≡ visits (hang n edge below c l) ++ (node h ∷ (visits (below h) ++ visits (hang n edge below c r)))
      unfolding visits
      visits-cut = visits-hang l (h ∷ r) ∙ rw (hang-node n edge below c h r e)

      parens-cut : parens (hang n edge below c (l ++ (h ∷ r))) ≡ parens (hang n edge below c l) ++ (true ∷ (parens (below h) ++ (false ∷ parens (hang n edge below c r))))
      unfolding parens shape enc
      parens-cut = parens-hang l (h ∷ r) ∙ rw (hang-node n edge below c h r e)

  -- ## Where the tree of h stands

  pub record Stand (lv : ℕ → ℕ) (h : ℕ) : Type 0 where
    pub before : List Visit
    pub beyond : List Visit
    pub opened : List Bool
    pub rest : List Bool
    pub deep : ℕ
    pub enough : n ≤ lv h + deep
    pub visited : visits (whole n edge) ≡ before ++ (node h ∷ (visits (under n edge deep h) ++ beyond))
    pub bits : parens (whole n edge) ≡ opened ++ (true ∷ (parens (under n edge deep h) ++ (false ∷ rest)))
    pub level : ones opened ≡ length before

  stand-root : (lv : ℕ → ℕ) → Stand lv 0
  unfolding whole visits parens shape enc rank
  stand-root lv =
      record { before = []; beyond = []; opened = []; rest = []; deep = n; enough = omega arith; visited = refl; bits = refl; level = refl }

  module _ (B : Book n edge) where
    module _ (h : ℕ) (e : edge h (parent n edge h) ≡ true) where
      stand-child : (S : Stand B.level (parent n edge h)) → (k : ℕ) → S.deep ≡ k → Stand B.level h
      unfolding under visits parens shape enc
      stand-child S zero d = absurd (omega (arith, S.enough, B.lower h (parent n edge h) e, B.fits h (B.piece h (parent n edge h) e)))
      stand-child S (suc k) d =
          record {
            before = S.before ++ (node q ∷ VL);
            beyond = VR ++ S.beyond;
            opened = S.opened ++ (true ∷ PL);
            rest = PR ++ (false ∷ S.rest);
            deep = k;
            enough = omega (arith, S.enough, B.lower h (parent n edge h) e);
            visited = (rw (d, at.2, visits-cut (under n edge k) q h at.0 at.1 same) at S.visited) ∙ regroup (node q) (node h) S.before VL (visits (under n edge k h)) VR S.beyond;
            bits = (rw (d, at.2, parens-cut (under n edge k) q h at.0 at.1 same) at S.bits) ∙ regroup true true S.opened PL (parens (under n edge k h)) (false ∷ PR) (false ∷ S.rest);
            level = omega (arith, S.level, ones-append S.opened (true ∷ PL), rank-cons true PL (length PL), length-append S.before (node q ∷ VL), ones-parens (hang n edge (under n edge k) q at.0));
          }
        where
          q : ℕ
          q = parent n edge h

          same : eqb (parent n edge h) q ≡ true
          same = eq-eqb q q refl

          at : (a : List ℕ) × (z : List ℕ) × (parts n edge q ≡ a ++ (h ∷ z))
          at = cut (parts n edge q) (mem-parts n edge B h q e)

          VL : List Visit
          VL = visits (hang n edge (under n edge k) q at.0)

          VR : List Visit
          VR = visits (hang n edge (under n edge k) q at.1)

          PL : List Bool
          PL = parens (hang n edge (under n edge k) q at.0)

          PR : List Bool
          PR = parens (hang n edge (under n edge k) q at.1)

    stand-below : (k h : ℕ) → B.level h < k → h < n → Stand B.level h
    stand-below zero h a l = absurd (omega arith)
    stand-below (suc k) zero a l = stand-root B.level
    stand-below (suc k) (suc h) a l =
        let e = parent-edge n edge B (suc h) (omega arith) l in
        let lt = B.lower (suc h) (parent n edge (suc h)) e in
        let S = stand-below k (parent n edge (suc h)) (omega arith) (B.whole (suc h) (parent n edge (suc h)) e) in
        stand-child (suc h) e S S.deep refl

    pub stand : (h : ℕ) → h < n → Stand B.level h
    stand h l = stand-below (suc (B.level h)) h (omega arith) l

    module _ (h : ℕ) (l : h < n) (S : Stand B.level h) where
      -- its node's place is what stands before it
      pub stand-place : place (visits (whole n edge)) h ≡ length S.before
      stand-place = rw S.visited (place_at h S.before (visits (under n edge S.deep h) ++ S.beyond) none)
        where
          one : 1 ≡ times h S.before + times h (node h ∷ (visits (under n edge S.deep h) ++ S.beyond))
          one = sym (once n edge B h l) ∙ ap (times h) S.visited ∙ times-append h S.before (node h ∷ (visits (under n edge S.deep h) ++ S.beyond))

          none : times h S.before ≡ 0
          none = unfold times is_node in omega (arith, one, ap num (eq-eqb h h refl))

      -- THE RANGE, from the bits alone, whatever follows them: as many places as its tree has visits
      pub stand-after : (Z : List Bool) → after (parens (whole n edge) ++ Z) (place (visits (whole n edge)) h) ≡ place (visits (whole n edge)) h + suc (length (visits (under n edge S.deep h)))
      stand-after Z = rw (stand-place, ← S.level, S.bits, tail Z) (after-at S.opened (S.rest ++ Z) (under n edge S.deep h))
        where
          tail : (Z : List Bool) → (S.opened ++ (true ∷ (parens (under n edge S.deep h) ++ (false ∷ S.rest)))) ++ Z
              ≡ S.opened ++ (true ∷ (parens (under n edge S.deep h) ++ (false ∷ (S.rest ++ Z))))
          tail Z = simp append_assoc
