-- What the tests of the code come to, by the definitions. Assumes nothing.
use Prim.Native.Nat.{ℕ, ◌*◌, ◌+◌, ◌≤◌, ◌<◌}
use mathlib.Core.Path.{◌≡◌, sym, ap, ◌∙◌}
use mathlib.Core.Bool.{Bool, true, false, ◌&&◌}
use mathlib.Core.List.{List}
use native.Mathlib.Omega.{arith}
use lib.Dec.{eqb}
use lib.ListN.{get_or}
use borrow.Author.Tests.{eq-eqb, ne_eqb, eqb-true, eqb-false}
use Rattle.lists.proofs.Bools.{Known, is_true, is_false, known}
use Rattle.records.specs.declared.Record.{Record}
use Rattle.records.specs.Record.{pair, record_at, records}
use Rattle.records.specs.Pieces.{stated}
use Rattle.records.specs.Facts.{saying}
use Rattle.records.proofs.Accepted.{says-kind, says-left, says-right}
use Rattle.chain_format.specs.declared.steps.Step.{Step}
use Rattle.chain_format.specs.Step.{step_at, unordered, showing, shows}
use Rattle.chain_format.specs.Other.{other}
use Rattle.chain_format.specs.Citing.{none, lets, cited_of, citing, marks_piece}
use Rattle.chain_format.specs.Justified.{cites}
use Rattle.chain_format.proofs.Citings.{cited-stated, cited-barred, cited-mark, cited-none, citing-at, citing-beyond}

pub read_step :
    (c : List ℕ) (i a b first second : ℕ) → a ≡ pair (get_or c (10 * i + 2) 0) (get_or c (10 * i + 2 + 1) 0) → b ≡ pair (get_or c (10 * i + 4) 0) (get_or c (10 * i + 4 + 1) 0)
    → first ≡ pair (get_or c (10 * i + 6) 0) (get_or c (10 * i + 6 + 1) 0) → second ≡ pair (get_or c (10 * i + 8) 0) (get_or c (10 * i + 8 + 1) 0)
    → record { rule = get_or c (10 * i) 0; kind = get_or c (10 * i + 1) 0; a = a; b = b; first = first; second = second } ≡ step_at c i
unfolding step_at
read_step c i a b first second p q r t =
    let n : 10 * i + 2 + 1 ≡ 10 * i + 3 = omega arith in
    let m : 10 * i + 4 + 1 ≡ 10 * i + 5 = omega arith in
    let l : 10 * i + 6 + 1 ≡ 10 * i + 7 = omega arith in
    let k : 10 * i + 8 + 1 ≡ 10 * i + 9 = omega arith in
    rw (p, q, r, t, n, m, l, k)

module _ (s : Step) (k a b : ℕ) where
  pub another-kind : (s.kind ≡ k → ⊥) → false ≡ showing s k a b
  unfolding showing
  another-kind e = simp (ne_eqb s.kind k e)

  module _ (e : s.kind ≡ k) where
    pub as-told : (eqb s.a a && eqb s.b b) ≡ true → true ≡ showing s k a b
    unfolding showing
    as-told h = simp (eq-eqb s.kind k e, h)

    module _ (h : (eqb s.a a && eqb s.b b) ≡ false) where
      pub not-told : unordered k ≡ false → false ≡ showing s k a b
      unfolding showing
      not-told u = simp (eq-eqb s.kind k e, h, u)

      pub turned-told : unordered k ≡ true → (eqb s.a b && eqb s.b a) ≡ showing s k a b
      unfolding showing
      turned-told u = simp (eq-eqb s.kind k e, h, u)

-- what a record or a claim says
pub shows-saying : (s : Step) (r : Record) → stated r ≡ true → showing s r.kind r.a r.b ≡ shows s (saying r)
shows-saying s r t = rw (says-kind r t, says-left r, says-right r)

-- the record that a step cites
module _ (claim : Record) (book : List ℕ) (s : Step) where
  abbrev Cites : Bool
  Cites = cites (get_or (citing claim book) s.first none) s

  pub beyond-book : records book ≤ s.first → false ≡ Cites
  unfolding cites
  beyond-book h = rw (citing-beyond claim book s.first h)

  module _ (h : s.first < records book) (r : Record) (e : r ≡ record_at book s.first) where
    here : get_or (citing claim book) s.first none ≡ cited_of claim r
    here = citing-at claim book s.first h ∙ ap (cited_of claim) (sym e)

    pub brings-none : stated r ≡ false → false ≡ Cites
    unfolding cites
    brings-none t = rw here (pick (known (eqb r.kind 6)))
      where
        pick : Known (eqb r.kind 6) → false ≡ cites (cited_of claim r) s
        pick (is_true k) = rw (cited-mark claim r (eqb-true _ _ k))
        pick (is_false k) = rw (cited-none claim r t (eqb-false _ _ k))

    pub brings-barred : stated r ≡ true → lets claim r ≡ false → false ≡ Cites
    unfolding cites
    brings-barred t l = rw (here, cited-barred claim r t l)

    pub brings-fact : stated r ≡ true → lets claim r ≡ true → showing s r.kind r.a r.b ≡ Cites
    unfolding cites
    brings-fact t l = rw (here, cited-stated claim r t l) (shows-saying s r t)

-- the record that marks a piece
module _ (claim : Record) (book : List ℕ) (i g : ℕ) where
  abbrev Marks : Bool
  Marks = marks_piece g (get_or (citing claim book) i none)

  pub marks-beyond : records book ≤ i → false ≡ Marks
  unfolding marks_piece
  marks-beyond h = rw (citing-beyond claim book i h)

  module _ (h : i < records book) (r : Record) (e : r ≡ record_at book i) where
    there : get_or (citing claim book) i none ≡ cited_of claim r
    there = citing-at claim book i h ∙ ap (cited_of claim) (sym e)

    pub marks-no : (r.kind ≡ 6 → ⊥) → false ≡ Marks
    unfolding marks_piece
    marks-no k = rw there (pick (known (stated r)))
      where
        let-pass : stated r ≡ true → Known (lets claim r) → false ≡ marks_piece g (cited_of claim r)
        let-pass t (is_true l) = rw (cited-stated claim r t l)
        let-pass t (is_false l) = rw (cited-barred claim r t l)

        pick : Known (stated r) → false ≡ marks_piece g (cited_of claim r)
        pick (is_true t) = let-pass t (known (lets claim r))
        pick (is_false t) = rw (cited-none claim r t k)

    pub marks-it : r.kind ≡ 6 → eqb r.a g ≡ Marks
    unfolding marks_piece
    marks-it k = rw (there, cited-mark claim r k)

module _ (x y z : ℕ) where
  pub other-second : x ≡ z → y ≡ other x y z
  unfolding other
  other-second e = rw (eq-eqb x z e, other)

  pub other-first : (x ≡ z → ⊥) → x ≡ other x y z
  unfolding other
  other-first e = rw (ne_eqb x z e, other)
