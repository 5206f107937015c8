-- The pairs of groups with the joins to group 0: a book whose levels rise, and the same containment as in the book of pieces. Assumes nothing.
use mathlib.Core.Path.{◌≡◌, refl, sym, ◌∙◌}
use mathlib.Core.Logic.{◌⊎◌, inl, inr, ◌↔◌}
use mathlib.Core.Bool.{Bool, true, false, not, ◌&&◌, true≢false}
use Prim.Native.Nat.{ℕ, zero, suc, ◌<◌}
use native.Mathlib.Decide.{ℕ_discrete}
use native.Mathlib.Omega.{arith}
use borrow.Author.Tests.{eqb-true, eqb-false, ne_eqb, ltb-true, lt-ltb, not-true as not_is}
use lib.Dec.{eqb, ltb}
use Rattle.lists.specs.Any.{any_below}
use Rattle.lists.proofs.Bools.{and_both, both-and, or-either, left_or, right_or, not-true, eqb-self, Known, is_true, is_false, known}
use Rattle.lists.proofs.Anys.{below-find, below-hit}
use Rattle.index.specs.Pairs.{joined, Book, Within, self, step}
use Rattle.index.proofs.Below.{within-trans}
use Rattle.groups.specs.Groups.{lies, number, groups, pair}
use Rattle.groups.specs.Index.{edges}
use Rattle.groups.proofs.Lying.{Pairs, leads, leads-split, leads-in, lies-fact, lies-trans, lies_whole, lies_within}
use Rattle.groups.proofs.Grouping.{both-same, same-both}
use Rattle.groups.proofs.Levels.{level, level-small, level-rises, level-same}
use Rattle.groups.proofs.Numbered.{number-below, same-to-number, number-to-same, number-onto, number-zero, groups-some, low, low-in, low_same}

not_so : (b : Bool) → b ≡ false → not b ≡ true
not_so b e = rw e

module _ (n : ℕ) (fact : ℕ → ℕ → Bool) (P : Pairs n fact) where
  -- a pair of groups, by members
  pub record Between (p c : ℕ) : Type 0 where
    pub part : ℕ
    pub whole : ℕ
    pub part_in : part < n
    pub whole_in : whole < n
    pub stored : fact part whole ≡ true
    pub under : number n fact part ≡ p
    pub over : number n fact whole ≡ c
    pub apart : p ≡ c → ⊥

  pub pair-from : (p c : ℕ) → pair n fact p c ≡ true → Between p c
  unfolding pair
  pair-from p c e =
      let a = and_both (not (eqb p c)) (any_below (λ g. eqb (number n fact g) p && any_below (λ h. eqb (number n fact h) c && fact g h) n) n) e in
      let g = below-find (λ g. eqb (number n fact g) p && any_below (λ h. eqb (number n fact h) c && fact g h) n) n a.1 in
      let b = and_both (eqb (number n fact g.0) p) (any_below (λ h. eqb (number n fact h) c && fact g.0 h) n) g.2 in
      let h = below-find (λ h. eqb (number n fact h) c && fact g.0 h) n b.1 in
      let d = and_both (eqb (number n fact h.0) c) (fact g.0 h.0) h.2 in
      record {
        part = g.0;
        whole = h.0;
        part_in = g.1;
        whole_in = h.1;
        stored = d.1;
        under = eqb-true (number n fact g.0) p b.0;
        over = eqb-true (number n fact h.0) c d.0;
        apart = eqb-false p c (not_is (eqb p c) a.0);
      }

  pub pair-to : (g h : ℕ) → fact g h ≡ true → (number n fact g ≡ number n fact h → ⊥) → pair n fact (number n fact g) (number n fact h) ≡ true
  unfolding pair
  pair-to g h e ne =
      both-and (not_so (eqb (number n fact g) (number n fact h)) (ne_eqb (number n fact g) (number n fact h) ne))
      (below-hit (λ x. eqb (number n fact x) (number n fact g) && any_below (λ y. eqb (number n fact y) (number n fact h) && fact x y) n) n g (P.within g h e).0
      (both-and (eqb-self (number n fact g)) (below-hit (λ y. eqb (number n fact y) (number n fact h) && fact g y) n h (P.within g h e).1 (both-and (eqb-self (number n fact h)) e))))

  -- an edge of groups, the joins with the pairs: the one contains the other, and not the other way round
  pub record Edge (p c : ℕ) : Type 0 where
    pub part : ℕ
    pub whole : ℕ
    pub part_in : part < n
    pub whole_in : whole < n
    pub under : number n fact part ≡ p
    pub over : number n fact whole ≡ c
    pub up : lies n fact part whole ≡ true
    pub only-up : lies n fact whole part ≡ false

  edge_of : (g h : ℕ) → g < n → h < n → (number n fact g ≡ number n fact h → ⊥) → lies n fact g h ≡ true → Edge (number n fact g) (number n fact h)
  edge_of g h l k ne e = record {
    part = g;
    whole = h;
    part_in = l;
    whole_in = k;
    under = refl;
    over = refl;
    up = e;
    only-up = not-true (lies n fact h g) (λ f. ne (same-to-number n fact P g h l k (both-same n fact P g h e f)));
  }

  pair-edge : (p c : ℕ) → pair n fact p c ≡ true → Edge p c
  pair-edge p c e =
      let b = pair-from p c e in
      let E = edge_of b.part b.whole b.part_in b.whole_in (λ q. b.apart (sym b.under ∙ q ∙ b.over))
      (lies-fact n fact P b.part b.whole b.stored) in
      rw (b.under, b.over) at E

  pub edge-is : (p c : ℕ) → edges n fact p c ≡ true → Edge p c
  unfolding edges joined
  edge-is p c e = go (or-either (pair n fact p c) rest e)
    where
      rest : Bool
      rest = eqb c 0 && (ltb 0 p && (ltb p (groups n fact) && not (any_below (pair n fact p) (groups n fact))))

      go : (pair n fact p c ≡ true) ⊎ (rest ≡ true) → Edge p c
      go (inl b) = pair-edge p c b
      go (inr j) =
          let a = and_both (eqb c 0) (ltb 0 p && (ltb p (groups n fact) && not (any_below (pair n fact p) (groups n fact)))) j in
          let b = and_both (ltb 0 p) (ltb p (groups n fact) && not (any_below (pair n fact p) (groups n fact))) a.1 in
          let d = and_both (ltb p (groups n fact)) (not (any_below (pair n fact p) (groups n fact))) b.1 in
          let z : number n fact 0 ≡ c = number-zero n fact P ∙ sym (eqb-true c 0 a.0) in
          let g = number-onto n fact P p (ltb-true p (groups n fact) d.0) in
          let E = edge_of g.0 0 g.1 P.some (λ q. omega (arith, ltb-true 0 p b.0, g.3, number-zero n fact P, q)) (lies_whole n fact P g.0 g.1) in
          rw (g.3, z) at E

  -- the level of a group is that of each member
  unfoldable depth : ℕ → ℕ
  depth k = level n fact (low n fact k)

  member-level : (g : ℕ) → g < n → depth (number n fact g) ≡ level n fact g
  unfolding depth
  member-level g l = level-same n fact P (low n fact (number n fact g)) g (low-in n fact P g l) l (low_same n fact P g l)

  -- ACYCLIC: levels rise from container to part
  rises : (p c : ℕ) → edges n fact p c ≡ true → depth c < depth p
  rises p c e =
      let E = edge-is p c e in
      let a = member-level E.part E.part_in in
      let b = member-level E.whole E.whole_in in
      let r = level-rises n fact P E.part E.whole E.part_in E.whole_in E.up E.only-up in
      omega (arith, rw E.under at a, rw E.over at b, r)

  shallow : (k : ℕ) → k < groups n fact → depth k < groups n fact
  shallow k l =
      let g = number-onto n fact P k l in
      let a : depth k ≡ level n fact g.0 = rw g.3 at (member-level g.0 g.1) in
      omega (arith, a, level-small n fact P g.0 g.1)

  edge_in : (p c : ℕ) → edges n fact p c ≡ true → (p < groups n fact) × (c < groups n fact)
  edge_in p c e =
      let E = edge-is p c e in
      (omega (arith, E.under, number-below n fact P E.part E.part_in), omega (arith, E.over, number-below n fact P E.whole E.whole_in))

  -- group 0 is nobody's part
  top-free : (p c : ℕ) → edges n fact p c ≡ true → 0 < p
  top-free p c e = go (ℕ_discrete p 0)
    where
      E : Edge p c
      E = edge-is p c e

      go : Dec (p ≡ 0) → 0 < p
      go (no z) = omega arith
      go (yes z) =
          let s = same-both n fact P E.part 0 (number-to-same n fact P E.part 0 E.part_in P.some (E.under ∙ z ∙ sym (number-zero n fact P))) in
          let down = lies-trans n fact P E.whole 0 E.part E.whole_in P.some E.part_in (lies_whole n fact P E.whole E.whole_in) s.1 in
          absurd (true≢false (sym down ∙ E.only-up))

  held : (p : ℕ) → 0 < p → p < groups n fact → (c : ℕ) × (edges n fact p c ≡ true)
  unfolding edges joined
  held p pos l = go (known (any_below (pair n fact p) (groups n fact)))
    where
      go : Known (any_below (pair n fact p) (groups n fact)) → (c : ℕ) × (edges n fact p c ≡ true)
      go (is_true e) = let f = below-find (pair n fact p) (groups n fact) e in (f.0, left_or _ f.2)
      go (is_false e) =
          (0, right_or (pair n fact p 0) (both-and (eqb-self 0) (both-and (lt-ltb 0 p pos) (both-and (lt-ltb p (groups n fact) l) (not_so (any_below (pair n fact p) (groups n fact)) e)))))

  -- THE THEOREM: the groups are a book with levels
  pub group-book : Book (groups n fact) (edges n fact)
  group-book = record {
    some = groups-some n fact P;
    level = depth;
    lower = rises;
    fits = shallow;
    piece = λ p c e. (edge_in p c e).0;
    whole = λ p c e. (edge_in p c e).1;
    below = top-free;
    held = held;
  }

  -- ## The same containment

  to-top : (k p : ℕ) → depth p < k → p < groups n fact → Within (edges n fact) p 0
  to-top zero p b l = absurd (omega arith)
  to-top (suc k) p b l = go (ℕ_discrete p 0) (λ (c : ℕ) (e : edges n fact p c ≡ true). to-top k c (omega (arith, rises p c e)) (edge_in p c e).1)
    where
      go : Dec (p ≡ 0) → ((c : ℕ) → edges n fact p c ≡ true → Within (edges n fact) c 0) → Within (edges n fact) p 0
      go (yes z) r = rw z self
      go (no z) r = let c = held p (omega arith) l in step c.1 (r c.0 c.1)

  stored-edge : (p c : ℕ) → pair n fact p c ≡ true → edges n fact p c ≡ true
  unfolding edges joined
  stored-edge p c e = left_or _ e

  one-step : (g c : ℕ) → leads n fact g c ≡ true → Within (edges n fact) (number n fact g) (number n fact c)
  one-step g c e = go (leads-split n fact P g c e)
    where
      l : g < n
      l = (leads-in n fact P g c e).0

      pick : fact g c ≡ true → Dec (number n fact g ≡ number n fact c) → Within (edges n fact) (number n fact g) (number n fact c)
      pick f (yes q) = rw q self
      pick f (no q) = step (stored-edge (number n fact g) (number n fact c) (pair-to g c f q)) self

      go : (c ≡ 0) ⊎ (fact g c ≡ true) → Within (edges n fact) (number n fact g) (number n fact c)
      go (inl z) = rw (z, number-zero n fact P) (to-top (suc (depth (number n fact g))) (number n fact g) (omega arith) (number-below n fact P g l))
      go (inr f) = pick f (ℕ_discrete (number n fact g) (number n fact c))

  within-groups : {g h : ℕ} → Within (leads n fact) g h → Within (edges n fact) (number n fact g) (number n fact h)
  within-groups self = self
  within-groups (step {g = g} {c = c} e w) = within-trans (one-step g c e) (within-groups w)

  groups-lie : {p c : ℕ} → Within (edges n fact) p c → (g h : ℕ) → g < n → h < n → number n fact g ≡ p → number n fact h ≡ c → lies n fact g h ≡ true
  groups-lie self g h l k a b = (same-both n fact P g h (number-to-same n fact P g h l k (a ∙ sym b))).0
  groups-lie (step {g = p} {c = c} e w) g h l k a b =
      let E = edge-is p c e in
      let s = same-both n fact P g E.part (number-to-same n fact P g E.part l E.part_in (a ∙ sym E.under)) in
      lies-trans n fact P g E.part h l E.part_in k s.0
      (lies-trans n fact P E.part E.whole h E.part_in E.whole_in k E.up (groups-lie w E.whole h E.whole_in k E.over b))

  -- THE THEOREM: a group lies within a group exactly where its members lie within the other's
  pub groups-iff : (g h : ℕ) → g < n → h < n → Within (edges n fact) (number n fact g) (number n fact h) ↔ (lies n fact g h ≡ true)
  groups-iff g h l k = (λ w. groups-lie w g h l k refl refl, λ e. within-groups (lies_within n fact P g h l k e))
