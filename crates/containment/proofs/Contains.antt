-- Containment read off the index is containment in the book: THE THEOREM is `contains`. Assumes nothing.
use mathlib.Core.Path.{◌≡◌, refl, sym, ap, ◌∙◌}
use mathlib.Core.Logic.{◌⊎◌, inl, inr, ◌↔◌}
use mathlib.Core.Bool.{Bool, true, false, true≢false}
use mathlib.Core.List.Memᴰ
use mathlib.Core.List.Memᴰ.{head as here}
use mathlib.Core.List.Memᴰ.{tail as there}
use mathlib.Core.List.{List, [], ◌∷◌, ◌++◌, map}
use Prim.Native.Nat.{ℕ, zero, suc, ◌+◌, ◌-◌, ◌≤◌, ◌<◌}
use native.Mathlib.Omega.{arith}
use native.Mathlib.Nat.{zero-add}
use native.Mathlib.Numerals.{one-add}
use lib.ListN.{length, get_or, length-append, length-map, get_or-map, get_or-append}
use lib.Seq.{get_or-append-add}
use Rattle.index.specs.Tree.{Visit, node, shadow, under, whole, visits}
use Rattle.index.specs.Parts.{parens, is_shadow, place, marks, shadows, shadow_list}
use Rattle.lists.proofs.Numbers.{◌∈◌}
use Rattle.parentheses.specs.Rank.{rank}
use Rattle.parentheses.specs.Subtree.{after}
use Rattle.parentheses.proofs.Ranks.{rank-zero}
use Rattle.parentheses.proofs.Trees.{rank-cons}
use Rattle.index.specs.Pairs.{Book, Within, self, step}
use Rattle.index.proofs.Nodes.{once}
use Rattle.index.proofs.Below.{piece, within-trans, within-le, Seen, under-mem, part-seen, node-part-seen}
use Rattle.containment.specs.Inside.{Inside, below, through}
use Rattle.index.proofs.Places.{Stand, stand, stand-place, stand-after}
use Rattle.index.proofs.Standing.{place-only, node_at}

-- ## Lists of visits

abbrev at : List Visit → ℕ → Visit
at vs s = get_or vs s (node 0)

-- a run in the midst of a list, by place and by member
run-mem : (u z : List Visit) (i : ℕ) → i < length u → at (u ++ z) i ∈ u
run-mem [] z i l = absurd (omega arith)
run-mem (v ∷ u) z zero l = here refl
run-mem (v ∷ u) z (suc i) l = there (run-mem u z i (omega arith))

mem-run : {v : Visit} (u z : List Visit) → v ∈ u → (i : ℕ) × (i < length u) × (at (u ++ z) i ≡ v)
mem-run [] z m = absurd (Memᴰ.not-nil m)
mem-run {v} (w ∷ u) z m = go (Memᴰ.cases_cons m) (λ (j : v ∈ u). mem-run u z j)
  where
    go : (v ≡ w) ⊎ (v ∈ u) → (v ∈ u → (i : ℕ) × (i < length u) × (at (u ++ z) i ≡ v)) → (i : ℕ) × (i < length (w ∷ u)) × (at (w ∷ (u ++ z)) i ≡ v)
    go (inl e) r = (0, omega arith, sym e)
    go (inr j) r = let f = r j in (suc f.0, omega (arith, f.1), f.2)

-- a shadow's target, by the count of the marks before it
pub shadow-at : (f : ℕ → ℕ) (vs : List Visit) (Y : List Bool) (zs : List ℕ) (s h : ℕ) → at vs s ≡ shadow h
    → get_or (map f (shadows vs) ++ zs) (rank (marks vs ++ Y) s) 0 ≡ f h
unfolding shadows marks is_shadow
shadow-at f [] Y zs s h e = let z : true ≡ false = cc in absurd (true≢false z)
shadow-at f (node p ∷ vs) Y zs zero h e = let z : true ≡ false = cc in absurd (true≢false z)
shadow-at f (shadow p ∷ vs) Y zs zero h e = let q : p ≡ h = cc in rw (rank-zero (true ∷ (marks vs ++ Y))) (ap f q)
shadow-at f (node p ∷ vs) Y zs (suc s) h e = rw (rank-cons false (marks vs ++ Y) s, zero-add (rank (marks vs ++ Y) s)) (shadow-at f vs Y zs s h e)
shadow-at f (shadow p ∷ vs) Y zs (suc s) h e = rw (rank-cons true (marks vs ++ Y) s, one-add (rank (marks vs ++ Y) s)) (shadow-at f vs Y zs s h e)

shadow-of : (v : Visit) → is_shadow v ≡ true → (h : ℕ) × (v ≡ shadow h)
unfolding is_shadow
shadow-of (node p) e = absurd (true≢false (sym e))
shadow-of (shadow p) e = (p, refl)

-- ## The index of a book

module _ (n : ℕ) (edge : ℕ → ℕ → Bool) where
  abbrev W : List Visit
  W = visits (whole n edge)

  module _ (B : Book n edge) where
    -- whatever stands after the parts of the index, as the zeros of lent parts do
    module _ (Z Y : List Bool) (zs : List ℕ) where
      abbrev P : List Bool
      P = parens (whole n edge) ++ Z

      abbrev M : List Bool
      M = marks (visits (whole n edge)) ++ Y

      abbrev pub InIndex : ℕ → ℕ → Type 0
      InIndex p q = Inside (parens (whole n edge) ++ Z) (marks (visits (whole n edge)) ++ Y) (shadow_list (visits (whole n edge)) ++ zs) p q

      -- the places of h's range hold the tree of h, and nothing else
      module _ (h : ℕ) (l : h < n) (S : Stand n edge B.level h) where
        pub range-tree : (s : ℕ) → place W h ≤ s → s < after P (place W h) → at W s ∈ node h ∷ visits (under n edge S.deep h)
        range-tree s a b =
            Memᴰ.cast
            (ap (λ (vs : List Visit). at vs s) S.visited ∙ ap (λ (j : ℕ). at (S.before ++ (U ++ S.beyond)) j) there-is ∙ get_or-append-add S.before (U ++ S.beyond) i (node 0))
            (run-mem U S.beyond i (omega (arith, stand-place n edge B h l S, stand-after n edge B h l S Z)))
          where
            U : List Visit
            U = node h ∷ visits (under n edge S.deep h)

            i : ℕ
            i = s - length S.before

            there-is : s ≡ length S.before + i
            there-is = omega (arith, stand-place n edge B h l S)

        range_small : (s : ℕ) → s < after P (place W h) → s < length W
        range_small s b =
            omega (
              arith,
              stand-place n edge B h l S,
              stand-after n edge B h l S Z,
              ap length S.visited,
              length-append S.before (node h ∷ (visits (under n edge S.deep h) ++ S.beyond)),
              length-append (visits (under n edge S.deep h)) S.beyond,
            )

        pub tree-range : {v : Visit} → v ∈ node h ∷ visits (under n edge S.deep h)
            → (s : ℕ) × (place W h ≤ s) × (s < after P (place W h)) × (at W s ≡ v) × (s < length W)
        tree-range {v} m = go (mem-run U S.beyond m)
          where
            U : List Visit
            U = node h ∷ visits (under n edge S.deep h)

            go : (i : ℕ) × (i < length U) × (at (U ++ S.beyond) i ≡ v) → (s : ℕ) × (place W h ≤ s) × (s < after P (place W h)) × (at W s ≡ v) × (s < length W)
            go (i, b, e) = (
              length S.before + i,
              omega (arith, stand-place n edge B h l S),
              omega (arith, stand-place n edge B h l S, stand-after n edge B h l S Z),
              ap (λ (vs : List Visit). at vs (length S.before + i)) S.visited ∙ get_or-append-add S.before (U ++ S.beyond) i (node 0) ∙ e,
              omega (arith, ap length S.visited, length-append S.before (U ++ S.beyond), length-append U S.beyond),
            )

      -- what a marked place in h's range leads to
      module _ (h : ℕ) (l : h < n) (s : ℕ) (a : place W h ≤ s) (b : s < after P (place W h)) (m : get_or M s false ≡ true) where
        pub target : (k : ℕ) × (k < n) × Within edge k h × (B.level h < B.level k) × (get_or (shadow_list W ++ zs) (rank M s) 0 ≡ place W k)
        unfolding shadow_list piece
        target = go (shadow-of (at W s) dark)
          where
            S : Stand n edge B.level h
            S = stand n edge B h l

            dark : is_shadow (at W s) ≡ true
            dark = unfold marks is_shadow in sym (get_or-map is_shadow W s (node 0)) ∙ sym (get_or-append (map is_shadow W) Y false s (rw (length-map W is_shadow) (range_small h l S s b))) ∙ m

            go : (k : ℕ) × (at W s ≡ shadow k) → (k : ℕ) × (k < n) × Within edge k h × (B.level h < B.level k) × (get_or (map (place W) (shadows W) ++ zs) (rank M s) 0 ≡ place W k)
            go (k, e) = split (Memᴰ.cases_cons (Memᴰ.cast (sym e) (range-tree h l S s a b)))
              where
                split : (shadow k ≡ node h) ⊎ (shadow k ∈ visits (under n edge S.deep h))
                    → (k : ℕ) × (k < n) × Within edge k h × (B.level h < B.level k) × (get_or (map (place W) (shadows W) ++ zs) (rank M s) 0 ≡ place W k)
                split (inl w) = let z : true ≡ false = cc in absurd (true≢false z)
                split (inr i) = let f = under-mem n edge B S.deep h i in (k, B.piece k f.0 f.1, step f.1 f.2, omega (arith, B.lower k f.0 f.1, within-le n edge B f.2), shadow-at (place W) W Y zs s k e)

      -- ## What the index says is so

      tree-within : (k h g : ℕ) → node g ∈ node h ∷ visits (under n edge k h) → Within edge g h
      tree-within k h g m = split (Memᴰ.cases_cons m)
        where
          split : (node g ≡ node h) ⊎ (node g ∈ visits (under n edge k h)) → Within edge g h
          split (inl w) = let e : g ≡ h = cc in rw e self
          split (inr i) = unfold piece in let f = under-mem n edge B k h i in step f.1 f.2

      inside-within : {p q : ℕ} → InIndex p q → (h g : ℕ) → h < n → g < n → p ≡ place W h → q ≡ place W g → Within edge g h
      inside-within (below a b) h g lh lg eh eg =
          let S = stand n edge B h lh in
          tree-within S.deep h g (Memᴰ.cast (sym (node_at n edge B g lg)) (range-tree h lh S (place W g) (omega arith) (rw (eh, eg) at b)))
      inside-within (through s a b m i) h g lh lg eh eg =
          let t = target h lh s (omega arith) (rw eh at b) m in
          within-trans (inside-within i t.0 g t.1 lg t.4 eg) t.2

      -- ## What is so the index says

      marked : (s : ℕ) {g : ℕ} → s < length W → at W s ≡ shadow g → get_or M s false ≡ true
      unfolding marks is_shadow
      marked s w e = get_or-append (map is_shadow W) Y false s (rw (length-map W is_shadow) w) ∙ get_or-map is_shadow W s (node 0) ∙ ap is_shadow e

      itself : (g : ℕ) → g < n → InIndex (place W g) (place W g)
      itself g l = below {p = place W g} {q = place W g} (omega arith) (omega (arith, stand-after n edge B g l (stand n edge B g l) Z))

      -- a part of what is in h's range is in h's range, or its shadow is
      range-part : (h g : ℕ) (l : h < n) (lg : g < n) → Seen g (visits (under n edge (stand n edge B h l).deep h)) → InIndex (place W h) (place W g)
      range-part h g l lg (inl i) = go (tree-range h l S (there i))
        where
          S : Stand n edge B.level h
          S = stand n edge B h l

          go : (s : ℕ) × (place W h ≤ s) × (s < after P (place W h)) × (at W s ≡ node g) × (s < length W) → InIndex (place W h) (place W g)
          go (s, a, b, e, w) = rw (place-only g W s (once n edge B g lg) w e) (below a b)
      range-part h g l lg (inr i) = go (tree-range h l S (there i))
        where
          S : Stand n edge B.level h
          S = stand n edge B h l

          go : (s : ℕ) × (place W h ≤ s) × (s < after P (place W h)) × (at W s ≡ shadow g) × (s < length W) → InIndex (place W h) (place W g)
          go (s, a, b, e, w) = through {q = place W g} s a b (marked s w e) (unfold shadow_list in rw (shadow-at (place W) W Y zs s g e) (itself g lg))

      inside-part : {p q : ℕ} → InIndex p q → (h c g : ℕ) → h < n → c < n → g < n → edge g c ≡ true → p ≡ place W h → q ≡ place W c → InIndex p (place W g)
      inside-part (below a b) h c g lh lc lg e eh ec =
          rw eh (split (Memᴰ.cases_cons (Memᴰ.cast (sym (node_at n edge B c lc)) (range-tree h lh S (place W c) (omega arith) (rw (eh, ec) at b)))))
        where
          S : Stand n edge B.level h
          S = stand n edge B h lh

          split : (node c ≡ node h) ⊎ (node c ∈ visits (under n edge S.deep h)) → InIndex (place W h) (place W g)
          split (inl w) = let ch : c ≡ h = cc in range-part h g lh lg (part-seen n edge B S.deep h g S.enough (rw ch at e))
          split (inr i) = range-part h g lh lg (node-part-seen n edge B S.deep h c g S.enough e i)
      inside-part (through s a b m i) h c g lh lc lg e eh ec =
          let t = target h lh s (omega arith) (rw eh at b) m in
          through s a b m (inside-part i t.0 c g t.1 lc lg e t.4 ec)

      within-inside : {g h : ℕ} → Within edge g h → h < n → g < n → InIndex (place W h) (place W g)
      within-inside (self {g = g}) lh lg = itself g lg
      within-inside (step {g = g} {c = c} {h = h} e w) lh lg =
          let lc = B.whole g c e in
          inside-part (within-inside w lh lc) h c g lh lc lg e refl refl

      -- THE THEOREM: the index says of two pieces what the book's facts say
      pub contains : (h g : ℕ) → h < n → g < n → InIndex (place W h) (place W g) ↔ Within edge g h
      contains h g lh lg = (λ i. inside-within i h g lh lg refl refl, λ w. within-inside w lh lg)
