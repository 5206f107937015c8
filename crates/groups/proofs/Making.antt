-- The numbers that the search finds make the groups, their leaders, and the order of the pieces. Assumes nothing.
use mathlib.Core.Path.{◌≡◌, sym, ap, ◌∙◌}
use mathlib.Core.Bool.{Bool, true, false, not, true≢false}
use mathlib.Core.List.{List}
use Prim.Native.Nat.{ℕ, suc, ◌+◌, ◌-◌, ◌<◌, ◌≤◌}
use native.Mathlib.Decide.{ℕ_discrete, dec_lt}
use native.Mathlib.Omega.{arith}
use borrow.Author.Tests.{eqb-true, eq-eqb, ne_eqb}
use lib.Dec.{eqb}
use lib.ListN.{length, get_or}
use Rattle.lists.specs.First.{first}
use Rattle.lists.specs.Tally.{tally}
use Rattle.lists.proofs.Bools.{not-is-true}
use Rattle.lists.proofs.Tallies.{tally-find, tally-rest}
use Rattle.lists.proofs.Passed.{tally-few, tally-many}
use Rattle.matrices.specs.Matrix.{bit_of}
use Rattle.groups.specs.Groups.{lowest}
use Rattle.groups.specs.Grouped.{Edged, Grouped}
use Rattle.groups.specs.Ranks.{lowest_by, first_by, Ranked, follower, Arrangeable, Arranged}
use Rattle.groups.specs.Search.{WayOf, Searchable, Searched}
use Rattle.groups.proofs.Lying.{Pairs}
use Rattle.groups.proofs.Certificate.{Certified, lies-done, low_by, number-by, count_by, searched}
use Rattle.groups.proofs.Ranking.{same-lowest-by, lowest-by-le, lowest-by-class}
use Rattle.groups.proofs.Arranging.{leader-place, follower-place}

-- the place of h
unfoldable at : ℕ → List ℕ → List ℕ → ℕ → ℕ
at from done lead h = elim (eqb (get_or lead h 0) h) [ true ↦ from + get_or done h 0 | false ↦ tally (follower lead) h ]

at-leader : (from : ℕ) (done lead : List ℕ) (h : ℕ) → get_or lead h 0 ≡ h → at from done lead h ≡ from + get_or done h 0
unfolding at
at-leader from done lead h e = rw (eq-eqb (get_or lead h 0) h e, at)

at-follower : (from : ℕ) (done lead : List ℕ) (h : ℕ) → (get_or lead h 0 ≡ h → ⊥) → at from done lead h ≡ tally (follower lead) h
unfolding at
at-follower from done lead h e = rw (ne_eqb (get_or lead h 0) h e, at)

module _ (n : ℕ) (e : List ℕ) (room : ℕ) (R : Searchable n e room) (done : List ℕ) (S : Searched n 2048 (bit_of e) (WayOf n e) (λ x. get_or done x 0)) where
  abbrev by : ℕ → ℕ
  by x = get_or done x 0

  -- piece 0 ends last, and each number up to its own is given
  last : (g : ℕ) → g < n → by g ≤ by 0
  last g l = go (ℕ_discrete g 0)
    where
      go : Dec (g ≡ 0) → by g ≤ by 0
      go (yes z) = omega (arith, ap by z)
      go (no z) = S.order 0 g R.some l (R.crowned g (omega arith) l)

  given : (f : ℕ) → f < suc (by 0) → (x : ℕ) × (x < n) × (by x ≡ f)
  given f l = go (ℕ_discrete f (by 0))
    where
      go : Dec (f ≡ by 0) → (x : ℕ) × (x < n) × (by x ≡ f)
      go (yes z) = (0, R.some, sym z)
      go (no z) = S.full 0 f R.some (omega arith)

  lowest-by-first : (g : ℕ) → g < n → first_by n by (lowest_by n by g) ≡ true
  unfolding first_by
  lowest-by-first g l = eq-eqb (lowest_by n by (lowest_by n by g)) (lowest_by n by g) (same-lowest-by n by (lowest_by n by g) g (lowest-by-class n by g l))

  -- as many classes as numbers
  classes : tally (first_by n by) n ≡ suc (by 0)
  classes =
      omega (
        arith,
        tally-few (first_by n by) (λ f. first (λ h. eqb f (by h)) 0 n) (suc (by 0)) n (λ k l t. (by k, omega (arith, last k l), low k t)),
        tally-many (first_by n by) by (suc (by 0)) n (λ f l. let x = given f l in
            (lowest_by n by x.0, omega (arith, x.1, lowest-by-le n by x.0 x.1), lowest-by-first x.0 x.1, lowest-by-class n by x.0 x.1 ∙ x.2)),
      )
    where
      low : (k : ℕ) → first_by n by k ≡ true → first (λ h. eqb (by k) (by h)) 0 n ≡ k
      low k t = unfold first_by lowest_by in eqb-true (first (λ h. eqb (by k) (by h)) 0 n) k t

  module _ (number lead : List ℕ) (m : ℕ) (K : Ranked n by number lead m) where
    leaders-one : (g h : ℕ) → g < n → h < n → get_or lead g 0 ≡ g → get_or lead h 0 ≡ h → by g ≡ by h → g ≡ h
    leaders-one g h l k a b q = sym a ∙ K.leads g l ∙ same-lowest-by n by g h q ∙ sym (K.leads h k) ∙ b

    pub arrangeable : n ≤ length lead → (places : ℕ) → places ≡ 2048 → Arrangeable n m done lead places
    arrangeable b places c = record {
      few = R.few;
      lead-room = b;
      sized = c;
      counted = omega (arith, K.counted, tally-rest (first_by n by) (follower lead) n (λ x l. unfold follower first_by in ap (λ (y : ℕ). not (eqb y x)) (K.leads x l)));
      small = λ g l q. omega (arith, K.counted, classes, last g l);
      one = leaders-one;
    }

    module _ (order : List ℕ) (places : ℕ) (A : Arrangeable n m done lead places) (O : Arranged n m done lead order) where
      placed : (h : ℕ) → h < n → (at (n - m) done lead h < n) × (get_or order (at (n - m) done lead h) 0 ≡ h)
      placed h l = go (ℕ_discrete (get_or lead h 0) h)
        where
          go : Dec (get_or lead h 0 ≡ h) → (at (n - m) done lead h < n) × (get_or order (at (n - m) done lead h) 0 ≡ h)
          go (yes q) = rw (at-leader (n - m) done lead h q) (leader-place n m done lead places A h l q, O.leaders h l q)
          go (no q) = rw (at-follower (n - m) done lead h q) (omega (arith, follower-place n m done lead places A h l q), O.followers h l q)

      row : (i : ℕ) → i < n → (get_or order i 0 < n) × (at (n - m) done lead (get_or order i 0) ≡ i)
      row i l = go (dec_lt i (n - m))
        where
          is : (x : ℕ) → x < n → at (n - m) done lead x ≡ i → (get_or order i 0 < n) × (at (n - m) done lead (get_or order i 0) ≡ i)
          is x a q = let z : get_or order i 0 ≡ x = rw q at (placed x a).1 in rw z (a, q)

          go : Dec (i < n - m) → (get_or order i 0 < n) × (at (n - m) done lead (get_or order i 0) ≡ i)
          go (yes q) =
              let x = tally-find (follower lead) n i (omega (arith, A.counted)) in
              let f : get_or lead x.0 0 ≡ x.0 → ⊥ = λ z. follows x.0 x.2 z in
              is x.0 x.1 (at-follower (n - m) done lead x.0 f ∙ x.3)
            where
              follows : (x : ℕ) → follower lead x ≡ true → get_or lead x 0 ≡ x → ⊥
              follows x t z = let u : true ≡ false = sym (eq-eqb (get_or lead x 0) x z) ∙ not-is-true (eqb (get_or lead x 0) x) (unfold follower in t) in absurd (true≢false u)
          go (no q) =
              let y = given (i - (n - m)) (omega (arith, K.counted, classes, A.counted)) in
              let x = lowest_by n by y.0 in
              let a : x < n = omega (arith, y.1, lowest-by-le n by y.0 y.1) in
              let f = lowest-by-class n by y.0 y.1 in
              let own : get_or lead x 0 ≡ x = K.leads x a ∙ same-lowest-by n by x y.0 f in
              is x a (at-leader (n - m) done lead x own ∙ omega (arith, f, y.2))

      pub grouped : n ≤ length order → (fact : ℕ → ℕ → Bool) → Edged n fact e → Grouped n fact number lead order m
      grouped big fact E = record {
        counted = K.counted ∙ count_by n fact P by C;
        numbers = λ g l. K.numbers g l ∙ number-by n fact P by C g l;
        leads = leads;
        room = big;
        at = at (n - m) done lead;
        row = row;
        placed = placed;
        earlier = λ h p l k a b ne lie.
            let hl = leads h l ∙ a in
            let pl = leads p k ∙ b in
            omega (arith, at-leader (n - m) done lead h hl, at-leader (n - m) done lead p pl, strict h p l k hl pl ne (lies-done n fact P by C p h k l lie));
      }
        where
          P : Pairs n fact
          P = record { some = R.some; within = E.within }

          C : Certified n fact by
          C = searched n fact P e E by S

          leads : (g : ℕ) → g < n → get_or lead g 0 ≡ lowest n fact g
          leads g l = K.leads g l ∙ low_by n fact P by C g l

          strict : (h p : ℕ) → h < n → p < n → get_or lead h 0 ≡ h → get_or lead p 0 ≡ p → (p ≡ h → ⊥) → by p ≤ by h → by p < by h
          strict h p l k a b ne le = go (ℕ_discrete (by p) (by h))
            where
              go : Dec (by p ≡ by h) → by p < by h
              go (yes q) = absurd (ne (leaders-one p h k l b a q))
              go (no q) = omega arith
