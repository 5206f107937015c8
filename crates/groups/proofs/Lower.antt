-- Where containers have lower numbers every group is a single piece under its own number, and the pairs of the groups are those of the book. Assumes nothing.
use mathlib.Core.Path.{◌≡◌, refl, sym, ap, fun_ext, ◌∙◌}
use mathlib.Core.Logic.{◌⊎◌, inl, inr}
use mathlib.Core.Bool.{Bool, true}
use Prim.Native.Nat.{ℕ, ◌<◌, ◌≤◌}
use native.Mathlib.Omega.{arith}
use borrow.Author.Tests.{eq-eqb}
use Rattle.lists.proofs.Bools.{same_truth}
use Rattle.index.specs.Pairs.{joined, Within, self, step}
use Rattle.lists.specs.Tally.{tally}
use Rattle.groups.specs.Groups.{lowest, first_of, number, groups, pair}
use mathlib.Core.List.{List}
use Rattle.index.specs.Tree.{Visit}
use Rattle.index.specs.Parts.{place, place_list}
use Rattle.index.specs.Index.{parentheses_of, visits_of}
use Rattle.lists.proofs.Tabs.{tab-same}
use Rattle.lists.proofs.Tallies.{tally-all}
use Rattle.groups.specs.Index.{edges, book_parens, book_visits, book_places}
use Rattle.groups.specs.Same.{Falling, SameIndex}
use Rattle.groups.proofs.Lying.{Pairs, leads, leads-split, lies_within}
use Rattle.groups.proofs.Grouping.{same-both, lowest-member, lowest-at-most, lowest-below}
use Rattle.groups.proofs.Quotient.{pair-from, pair-to}

module _ (n : ℕ) (fact : ℕ → ℕ → Bool) (P : Pairs n fact) (lower : (p c : ℕ) → fact p c ≡ true → c < p) where
  falls : {g h : ℕ} → Within (leads n fact) g h → h ≤ g
  falls self = omega arith
  falls (step {g = g} {c = c} e w) = go (leads-split n fact P g c e) (falls w)
    where
      go : {h : ℕ} → (c ≡ 0) ⊎ (fact g c ≡ true) → h ≤ c → h ≤ g
      go (inl z) l = omega arith
      go (inr f) l = omega (arith, lower g c f)

  -- every group is a single piece
  pub single : (g : ℕ) → g < n → lowest n fact g ≡ g
  single g l =
      let k = lowest-below n fact P g l in
      omega (arith, lowest-at-most n fact P g l, falls (lies_within n fact P (lowest n fact g) g k l (same-both n fact P g (lowest n fact g) (lowest-member n fact P g l)).1))

  first-all : (g : ℕ) → g < n → first_of n fact g ≡ true
  unfolding first_of
  first-all g l = eq-eqb (lowest n fact g) g (single g l)

  pub own-number : (g : ℕ) → g < n → number n fact g ≡ g
  unfolding number
  own-number g l = ap (tally (first_of n fact)) (single g l) ∙ tally-all (first_of n fact) g (λ x k. first-all x (omega arith))

  pub all-groups : groups n fact ≡ n
  unfolding groups
  all-groups = tally-all (first_of n fact) n first-all

  pub same-pairs : pair n fact ≡ fact
  same-pairs = fun_ext (λ p. fun_ext (λ c. same_truth (pair n fact p c) (fact p c) (to p c) (from p c)))
    where
      to : (p c : ℕ) → pair n fact p c ≡ true → fact p c ≡ true
      to p c e =
          let b = pair-from n fact P p c e in
          let x : b.part ≡ p = sym (own-number b.part b.part_in) ∙ b.under in
          let y : b.whole ≡ c = sym (own-number b.whole b.whole_in) ∙ b.over in
          rw (x, y) at b.stored

      from : (p c : ℕ) → fact p c ≡ true → pair n fact p c ≡ true
      from p c e =
          let x = own-number p (P.within p c e).0 in
          let y = own-number c (P.within p c e).1 in
          rw (x, y) at (pair-to n fact P p c e (λ q. omega (arith, lower p c e, x, y, q)))

  same_edges : edges n fact ≡ joined n fact
  unfolding edges
  same_edges = rw (all-groups, same-pairs) refl

  visits-same : book_visits n fact ≡ visits_of n (joined n fact)
  unfolding book_visits
  visits-same = rw (all-groups, same_edges) refl

  parens-same : book_parens n fact ≡ parentheses_of n (joined n fact)
  unfolding book_parens
  parens-same = rw (all-groups, same_edges) refl

  places_same : book_places n fact ≡ place_list n (visits_of n (joined n fact))
  unfolding book_places place_list
  places_same =
      tab-same (λ g. place (book_visits n fact) (number n fact g)) (place (visits_of n (joined n fact))) 0 n
      (λ k l m. ap (place (book_visits n fact)) (own-number k (omega arith)) ∙ ap (λ (vs : List Visit). place vs k) visits-same)

-- THE THEOREM of the request: with lower containers the index is what it was
pub same_index : (n : ℕ) (fact : ℕ → ℕ → Bool) → Falling n fact → SameIndex n fact
same_index n fact F = record {
  groups-are = all-groups n fact P F.lower;
  number_is = own-number n fact P F.lower;
  lowest-is = single n fact P F.lower;
  parens-are = parens-same n fact P F.lower;
  visits-are = visits-same n fact P F.lower;
  places-are = places_same n fact P F.lower;
}
  where
    P : Pairs n fact
    P = record { some = F.some; within = F.within }
