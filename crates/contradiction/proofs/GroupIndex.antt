-- The index of a list of facts: that of the groups of its PARTs, and the room that it takes. Assumes nothing.
use Prim.Native.Nat.{ℕ, ◌+◌, ◌≤◌, ◌<◌}
use mathlib.Core.Path.{◌≡◌, refl, sym, fun_ext, ◌∙◌}
use mathlib.Core.Bool.{Bool, true, false, not, ◌&&◌, and-true}
use mathlib.Core.List.{List}
use native.Mathlib.Omega.{arith}
use borrow.Author.Tests.{eqb-true, eqb-false, ne_eqb, eq-eqb, lt-ltb, le-ltb}
use lib.Dec.{eqb, ltb}
use lib.ListN.{length, get_or}
use Rattle.lists.proofs.Bools.{and_both, both-and, right_or, same_truth, not-is-true}
use Rattle.matrices.specs.Matrix.{bit_of}
use Rattle.rules.specs.Fact.{Fact, PART, kind, left, right, fact_of, unmarked}
use Rattle.rules.specs.Follows.{storing, containment, derived, step, follows}
use Rattle.rules.proofs.Facts.{storing-find, storing-hit}
use Rattle.index.specs.Pairs.{joined, pairs, Book}
use Rattle.index.specs.Index.{visits_of, Room}
use Rattle.index.specs.Matrix.{pair_of, Buildable}
use Rattle.index.proofs.Matrices.{matrix-pairs}
use Rattle.index.proofs.Bounds.{pairs-any, nodes-bound, room_for}
use Rattle.groups.specs.Groups.{lies, number, groups, pair}
use Rattle.groups.specs.Index.{edges, book_visits}
use Rattle.groups.specs.Grouped.{Edged}
use Rattle.groups.specs.Search.{Searchable}
use Rattle.groups.proofs.Lying.{Pairs}
use Rattle.groups.proofs.Numbered.{number-below, groups-few, groups-some}
use Rattle.groups.proofs.Quotient.{pair-from, pair-to, group-book}
use Rattle.closure.specs.Bounded.{Bounded}
use Rattle.contradiction.specs.Roomy.{Roomy}
use Rattle.closure.specs.Closed.{Holds, part_bit}
use Rattle.closure.specs.Stored.{stored_bit, edge_bit, stepping}
use Rattle.records.specs.PartIn.{part_in}
use Rattle.contradiction.specs.Numbered.{Numbered}
use Rattle.contradiction.proofs.FactIndex.{part-stored, stored-part}

-- PART by the rules is what lies in what
lies-follows : (n : ℕ) (fs : List Fact) (g h : ℕ) → lies n (part_in fs) g h ≡ follows unmarked n fs (PART g h)
unfolding lies follows containment derived step part_in
lies-follows n fs g h = refl

pub part_lies : (n : ℕ) (fs : List Fact) (g h : ℕ) → g < n → h < n → part_bit n fs h g ≡ lies n (part_in fs) g h
unfolding part_bit
part_lies n fs g h l k = rw (lt-ltb g n l, lt-ltb h n k) (sym (lies-follows n fs g h))

-- and there is none beyond n
pub part-beyond : (n : ℕ) (fs : List Fact) (h g : ℕ) → n ≤ g → part_bit n fs h g ≡ false
unfolding part_bit
part-beyond n fs h g l = rw (le-ltb g n l)

-- a PART of a and b is a pair of the groups p and c, where ν says which group a piece is in
abbrev between : (ℕ → ℕ) → ℕ → ℕ → ℕ → ℕ → Bool
between ν p c a b = not (eqb (ν a) (ν b)) && (eqb (ν b) c && eqb (ν a) p)

few-between : (m : ℕ) (ν : ℕ → ℕ) (fs : List Fact) → pairs m (λ p c. storing fs 1 (between ν p c)) ≤ length fs
unfolding storing
few-between m ν fs =
    pairs-any m (λ p c f. eqb (kind f) 1 && between ν p c (left f) (right f)) (λ f. ν (left f)) (λ f. ν (right f))
    (λ p c f e.
    let t = (and_both (eqb (kind f) 1) (between ν p c (left f) (right f)) e).1 in
    let u = (and_both (not (eqb (ν (left f)) (ν (right f)))) (eqb (ν (right f)) c && eqb (ν (left f)) p) t).1 in
    let w = and_both (eqb (ν (right f)) c) (eqb (ν (left f)) p) u in
    (sym (eqb-true (ν (left f)) p w.1), sym (eqb-true (ν (right f)) c w.0))) fs

module _ (n : ℕ) (fs : List Fact) (B : Bounded n fs) where
  pub pairs-within : Pairs n (part_in fs)
  pairs-within = record { some = B.some; within = λ p c e. B.within (PART p c) (part-stored fs p c e) }

  pub book : Book (groups n (part_in fs)) (edges n (part_in fs))
  book = group-book n (part_in fs) pairs-within

  pub few-groups : groups n (part_in fs) ≤ n
  few-groups = groups-few n (part_in fs) pairs-within

  -- the matrix that the search for groups reads
  pub edged : (e : List ℕ) → Holds n e (edge_bit n fs) → Edged n (part_in fs) e
  unfolding edge_bit stored_bit part_in
  edged e E =
      record {
        within = pairs-within.within;
        bits = λ c p l k. E.bits c p l (omega (arith, B.fits)) ∙ rw (lt-ltb p n k, and-true (ltb 0 p));
      }

  pub searchable : (e : List ℕ) (k : ℕ) → Holds n e (edge_bit n fs) → k ≡ 2048 → Searchable n e k
  unfolding edge_bit
  searchable e k E z =
      record {
        some = B.some;
        few = B.fits;
        matrix = E.sized;
        sized = z;
        crowned = λ y p l. E.bits 0 y B.some (omega (arith, B.fits)) ∙ right_or (stored_bit fs 1 false true 0 y) (both-and (lt-ltb 0 y p) (lt-ltb y n l));
      }

  -- the pairs of groups are those of the stored PARTs, read through the groups
  module _ (ν : ℕ → ℕ) (are : (g : ℕ) → g < n → ν g ≡ number n (part_in fs) g) where
    to-pair : (p c : ℕ) → storing fs 1 (between ν p c) ≡ true → pair n (part_in fs) p c ≡ true
    unfolding fact_of
    to-pair p c e =
        let s = storing-find fs 1 (between ν p c) e in
        let a : ℕ = s.0 in
        let b : ℕ = s.1 in
        let t = and_both (not (eqb (ν a) (ν b))) (eqb (ν b) c && eqb (ν a) p) s.3 in
        let u = and_both (eqb (ν b) c) (eqb (ν a) p) t.1 in
        let w = B.within (PART a b) s.2 in
        let x : number n (part_in fs) a ≡ p = sym (are a w.0) ∙ eqb-true (ν a) p u.1 in
        let y : number n (part_in fs) b ≡ c = sym (are b w.1) ∙ eqb-true (ν b) c u.0 in
        let i = pair-to n (part_in fs) pairs-within a b (stored-part fs a b s.2) (λ z. eqb-false (ν a) (ν b) (not-is-true (eqb (ν a) (ν b)) t.0) (are a w.0 ∙ z ∙ sym (are b w.1))) in
        rw (x, y) at i

    of_pair : (p c : ℕ) → pair n (part_in fs) p c ≡ true → storing fs 1 (between ν p c) ≡ true
    of_pair p c e =
        let b = pair-from n (part_in fs) pairs-within p c e in
        let m = part-stored fs b.part b.whole b.stored in
        let w = B.within (PART b.part b.whole) m in
        let x : ν b.part ≡ p = are b.part w.0 ∙ b.under in
        let y : ν b.whole ≡ c = are b.whole w.1 ∙ b.over in
        let z : not (eqb (ν b.part) (ν b.whole)) ≡ true = rw (ne_eqb (ν b.part) (ν b.whole) (λ z. b.apart (sym x ∙ z ∙ y))) in
        storing-hit fs 1 (between ν p c) (PART b.part b.whole) m refl
        (both-and z (both-and (eq-eqb (ν b.whole) c y) (eq-eqb (ν b.part) p x)))

    pub pair-stored : (p c : ℕ) → storing fs 1 (between ν p c) ≡ pair n (part_in fs) p c
    pair-stored p c = same_truth _ _ (to-pair p c) (of_pair p c)

  -- no more pairs than facts
  pair-count : pairs (groups n (part_in fs)) (pair n (part_in fs)) ≤ length fs
  pair-count = rw (← same) (few-between (groups n (part_in fs)) (number n (part_in fs)) fs)
    where
      same : (λ p c. storing fs 1 (between (number n (part_in fs)) p c)) ≡ pair n (part_in fs)
      same = fun_ext (λ p. fun_ext (λ c. pair-stored (number n (part_in fs)) (λ g l. refl) p c))

  pub nodes : length (book_visits n (part_in fs)) ≤ length fs + n
  unfolding book_visits visits_of edges
  nodes = omega (arith, nodes-bound (groups n (part_in fs)) (pair n (part_in fs)) book, pair-count, few-groups)

  -- parts with room for as many facts and pieces have room for the index, the places of the groups among them
  pub room : (b mb sc pc : ℕ) → Roomy n (length fs) b mb sc pc → Room (groups n (part_in fs)) (edges n (part_in fs)) b mb sc pc
  unfolding edges
  room b mb sc pc R =
      room_for (groups n (part_in fs)) (pair n (part_in fs)) book (length fs) b mb sc pc pair-count (omega (arith, R.parens, few-groups)) (omega (arith, R.marks, few-groups)) R.shadows (omega (arith, R.places, few-groups))

  -- ---- the matrix of the pairs of groups, row by container

  pub named-below : (list : List ℕ) (count : ℕ) → Numbered n fs list count → (g : ℕ) → g < n → get_or list g 0 < n
  named-below list count N g l = omega (arith, N.numbers g l, number-below n (part_in fs) pairs-within g l, few-groups)

  module _ (list : List ℕ) (count : ℕ) (N : Numbered n fs list count) (m : List ℕ) (M : Holds n m (λ x y. storing fs 1 (stepping list x y))) where
    within : (p c : ℕ) → pair n (part_in fs) p c ≡ true → (p < count) × (c < count)
    within p c e =
        let b = pair-from n (part_in fs) pairs-within p c e in
        let part = number-below n (part_in fs) pairs-within b.part b.part_in in
        let whole = number-below n (part_in fs) pairs-within b.whole b.whole_in in
        (omega (arith, b.under, N.counted), omega (arith, b.over, N.counted))

    stored : (p c : ℕ) → p < count → c < count → bit_of m c p ≡ pair n (part_in fs) p c
    unfolding stepping
    stored p c a b = M.bits c p (omega (arith, N.counted, few-groups)) (omega (arith, N.counted, few-groups, B.fits)) ∙ pair-stored (λ g. get_or list g 0) N.numbers p c

    pairs-same : pair_of count m ≡ pair n (part_in fs)
    pairs-same = matrix-pairs count (pair n (part_in fs)) within m stored

    pub edges-same : joined count (pair_of count m) ≡ edges n (part_in fs)
    unfolding edges
    edges-same = rw (pairs-same, N.counted)

    pub buildable : (b mb sc pc own : ℕ) → Roomy n (length fs) b mb sc pc → own ≡ 2048 → Buildable count m b mb sc own
    unfolding book_visits
    buildable b mb sc pc own R z =
        record {
          some = omega (arith, N.counted, groups-some n (part_in fs) pairs-within);
          small = omega (arith, N.counted, few-groups, B.fits);
          matrix = M.sized;
          book = rw (edges-same, N.counted) book;
          room = rw (edges-same, N.counted) (room b mb sc own (record { few = R.few; parens = R.parens; marks = R.marks; shadows = R.shadows; places = omega (arith, B.fits) }));
          few = rw (edges-same, N.counted) (omega (arith, nodes, R.few, B.fits));
        }
