-- The answers, claim after claim. Assumes nothing.
use Rattle.std.specs.Prelude.{Ok}
use Prim.Native.Nat.{ℕ, ◌+◌, ◌≤◌, ◌<◌}
use mathlib.Core.Path.{◌≡◌, refl, sym, ap, ◌∙◌}
use mathlib.Core.Bool.{Bool, true, false, false≢true}
use mathlib.Core.List.{List}
use native.Mathlib.Omega.{arith}
use native.Mathlib.Decide.{ℕ_discrete}
use borrow.Author.Tests.{leb-true, lt-ltb, ltb-true, ltb-false}
use lib.Dec.{leb, ltb}
use lib.ListN.{length, get_or, set}
use lib.Seq.{get_or-set_same, get_or-set_other, ext_get_or}
use Rattle.lists.proofs.Tabs.{tab-at, tab-length}
use Rattle.lists.proofs.Anys.{below-find, below-hit}
use Rattle.lists.proofs.Bools.{and_both, not-true, Known, is_true, is_false, known}
use Rattle.rules.specs.Fact.{Fact}
use Rattle.rules.specs.Verdict.{verdict}
use Rattle.records.specs.Record.{record_at, records}
use Rattle.records.specs.Pieces.{stated}
use Rattle.records.specs.Facts.{saying, facts}
use Rattle.records.specs.Marked.{marked}
use Rattle.records.specs.Check.{claims_check}
use Rattle.records.specs.declared.Record.{Record}
use Rattle.records.proofs.Accepted.{accepted-claims, says-left, says-right}
use Rattle.records.specs.Kept.{sheets}
use Rattle.records.proofs.Keeps.{picked_all, picked-sheets}
use Rattle.closure.specs.Bounded.{Bounded}
use Rattle.closure.specs.Closed.{Holds, Closed, whole_bit, away_bit, out_bit}
use Rattle.closure.specs.Void.{void_of}
use Rattle.verdicts.specs.Tells.{Answered}
use Rattle.records.specs.Claimed.{claimed, picked_facts, answers_to}
use Rattle.claims.specs.Answered.{AnsweredFrom, Answers, Answerable, restricted}
use Rattle.claims.proofs.Counts.{counted-settleable}

-- a claim that passes rows 12 and 13 is of a kind 1 to 4 about two of the pieces
pub record Asked (cs : List ℕ) (n i : ℕ) : Type 0 where
  pub low : 1 ≤ (record_at cs i).kind
  pub high : (record_at cs i).kind ≤ 4
  pub a : (record_at cs i).a < n
  pub b : (record_at cs i).b < n

pub asked : (cs : List ℕ) (n i : ℕ) → claims_check n cs ≡ Ok tt → i < records cs → Asked cs n i
unfolding stated
asked cs n i f h =
    let c = accepted-claims n cs f in
    let k = and_both (leb 1 (record_at cs i).kind) (leb (record_at cs i).kind 4) (c.kinds i h) in
    let w = c.within i h in
    record { low = leb-true _ _ k.0; high = leb-true _ _ k.1; a = omega (arith, says-left (record_at cs i)); b = omega (arith, says-right (record_at cs i)) }

-- the answers to the claims of one origin before claim i stand, and the others are as they were
pub record Standing (void : ℕ → Bool) (origin : ℕ) (cs d u p t q before answers : List ℕ) (i : ℕ) : Type 0 where
  pub each :
      (n : ℕ) (fs : List Fact) → Bounded n fs → Closed void n fs d u p t q → claims_check n cs ≡ Ok tt
      → (j : ℕ) → j < i → j < records cs → (record_at cs j).origin ≡ origin → get_or answers j 0 ≡ verdict void n fs (claimed cs j)
  pub others : (j : ℕ) → ((record_at cs j).origin ≡ origin → ⊥) → get_or answers j 0 ≡ get_or before j 0

module _ (void : ℕ → Bool) (origin : ℕ) (cs d u p t q before : List ℕ) where
  pub standing-none : Standing void origin cs d u p t q before before 0
  standing-none = record { each = λ n fs B C f j l h o. absurd (omega arith); others = λ j o. refl }

  -- a claim of the other origin
  pub standing-skip :
      (answers : List ℕ) (i : ℕ) (r : Record) → r ≡ record_at cs i → (r.origin ≡ origin → ⊥) → Standing void origin cs d u p t q before answers i
      → Standing void origin cs d u p t q before answers (i + 1)
  standing-skip answers i r e o S = record { each = λ n fs B C f j k h a. pick n fs B C f j k h a (ℕ_discrete j i); others = S.others }
    where
      pick :
          (n : ℕ) (fs : List Fact) → Bounded n fs → Closed void n fs d u p t q → claims_check n cs ≡ Ok tt
          → (j : ℕ) → j < i + 1 → j < records cs → (record_at cs j).origin ≡ origin → Dec (j ≡ i) → get_or answers j 0 ≡ verdict void n fs (claimed cs j)
      pick n fs B C f j k h a (yes q) = absurd (o (ap (λ (x : Record). x.origin) e ∙ ap (λ (x : ℕ). (record_at cs x).origin) (sym q) ∙ a))
      pick n fs B C f j k h a (no q) = S.each n fs B C f j (omega arith) h a

  standing-more :
      (answers : List ℕ) (i v : ℕ) → i < length answers → (record_at cs i).origin ≡ origin → Standing void origin cs d u p t q before answers i
      → Answered void d u p t q (record_at cs i).kind (record_at cs i).a (record_at cs i).b v → Standing void origin cs d u p t q before (set answers i v) (i + 1)
  unfolding claimed
  standing-more answers i v l o S A =
      record {
        each = λ n fs B C f j k h a. pick n fs B C f j k h a (ℕ_discrete j i);
        others = λ j x. get_or-set_other answers i j v 0 (λ e. x (ap (λ (k : ℕ). (record_at cs k).origin) e ∙ o)) ∙ S.others j x;
      }
    where
      pick :
          (n : ℕ) (fs : List Fact) → Bounded n fs → Closed void n fs d u p t q → claims_check n cs ≡ Ok tt
          → (j : ℕ) → j < i + 1 → j < records cs → (record_at cs j).origin ≡ origin → Dec (j ≡ i) → get_or (set answers i v) j 0 ≡ verdict void n fs (saying (record_at cs j))
      pick n fs B C f j k h a (yes e) =
          let w = asked cs n i f (rw e at h) in
          rw e (get_or-set_same answers i v 0 l ∙ A.is n fs B C w.a w.b)
      pick n fs B C f j k h a (no e) = get_or-set_other answers i j v 0 e ∙ S.each n fs B C f j (omega arith) h a

  -- the same, of the record that was read and the byte that was written
  pub standing-read :
      (answers : List ℕ) (i v w : ℕ) (r : Record) → r ≡ record_at cs i → v ≡ w → i < length answers → r.origin ≡ origin
      → Standing void origin cs d u p t q before answers i → Answered void d u p t q r.kind r.a r.b w
      → Standing void origin cs d u p t q before (set answers i v) (i + 1)
  standing-read answers i v w r e f l o S A = rw f (standing-more answers i w l (rw e at o) S (rw e at A))

  pub standing-all : (answers : List ℕ) (i : ℕ) → records cs ≤ i → Standing void origin cs d u p t q before answers i → Answers void origin cs d u p t q before answers
  standing-all answers i e S = record { are = λ n fs B C f. record { are = λ j h o. S.each n fs B C f j (omega arith) h o; others = S.others } }

-- ---- the claims of both origins

-- no claim before i is restricted
abbrev pub Plain : List ℕ → ℕ → Type 0
Plain cs i = (j : ℕ) → j < i → (record_at cs j).origin ≡ 0

pub plain-none : (cs : List ℕ) → Plain cs 0
plain-none cs j l = absurd (omega arith)

pub plain_more : (cs : List ℕ) (i : ℕ) (r : Record) → r ≡ record_at cs i → r.origin ≤ 0 → Plain cs i → Plain cs (i + 1)
plain_more cs i r e o P j l = pick (ℕ_discrete j i)
  where
    pick : Dec (j ≡ i) → (record_at cs j).origin ≡ 0
    pick (yes q) = ap (λ (k : ℕ). (record_at cs k).origin) q ∙ ap (λ (x : Record). x.origin) (sym e) ∙ omega arith
    pick (no q) = P j (omega arith)

pub plain-all : (cs : List ℕ) (i : ℕ) → records cs ≤ i → Plain cs i → false ≡ restricted cs
unfolding restricted
plain-all cs i h P =
    sym (not-true _ (λ e. let f = below-find (λ j. ltb 0 (record_at cs j).origin) (records cs) e in omega (arith, ltb-true 0 (record_at cs f.0).origin f.2, P f.0 (omega (arith, f.1)))))

pub restricted-found : (cs : List ℕ) (i : ℕ) (r : Record) → r ≡ record_at cs i → i < records cs → 0 < r.origin → true ≡ restricted cs
unfolding restricted
restricted-found cs i r e l o = sym (below-hit (λ j. ltb 0 (record_at cs j).origin) (records cs) i l (lt-ltb 0 (record_at cs i).origin (rw e at o)))

pub none-restricted : (cs : List ℕ) → restricted cs ≡ false → (i : ℕ) → i < records cs → (record_at cs i).origin ≡ 0
unfolding restricted
none-restricted cs e i h = pick (known (ltb 0 (record_at cs i).origin))
  where
    pick : Known (ltb 0 (record_at cs i).origin) → (record_at cs i).origin ≡ 0
    pick (is_true t) = absurd (false≢true (sym e ∙ below-hit (λ j. ltb 0 (record_at cs j).origin) (records cs) i h t))
    pick (is_false t) = omega (arith, ltb-false 0 (record_at cs i).origin t)

module _ (s : List ℕ) (n : ℕ) (cs : List ℕ) where
  each-answered :
      (answers : List ℕ) → length answers ≡ records cs → ((j : ℕ) → j < records cs → get_or answers j 0 ≡ verdict (marked s) n (picked_facts s cs j) (claimed cs j))
      → answers ≡ answers_to s n cs
  unfolding answers_to
  each-answered answers z h =
      ext_get_or 0 answers (answers_to s n cs) (z ∙ sym (tab-length _ 0 (records cs)))
      (λ j l. h j (omega arith) ∙ sym (tab-at (λ i. verdict (marked s) n (picked_facts s cs i) (claimed cs i)) (records cs) j 0 (omega arith)))

  from_all : (j : ℕ) → (record_at cs j).origin ≡ 0 → verdict (marked s) n (facts s) (claimed cs j) ≡ verdict (marked s) n (picked_facts s cs j) (claimed cs j)
  from_all j o = ap (λ (r : List ℕ). verdict (marked s) n (facts r) (claimed cs j)) (sym (picked_all s (record_at cs j) o))

  from-sheets : (j : ℕ) → ((record_at cs j).origin ≡ 0 → ⊥) → verdict (marked s) n (facts (sheets s)) (claimed cs j) ≡ verdict (marked s) n (picked_facts s cs j) (claimed cs j)
  from-sheets j o = ap (λ (r : List ℕ). verdict (marked s) n (facts r) (claimed cs j)) (sym (picked-sheets s (record_at cs j) o))

  -- no claims, no answers
  pub answers-none : (answers : List ℕ) → records cs ≡ 0 → length answers ≡ records cs → answers ≡ answers_to s n cs
  answers-none answers e z = each-answered answers z (λ j h. absurd (omega arith))

-- matrices that close the book's facts, and the answers to the claims on all facts that they tell
module _ {s : List ℕ} {n : ℕ} {voids cs e order lead d t before : List ℕ} (S : Answerable s n voids cs e order lead d t (length before)) {u p q between : List ℕ}
    (wholes : Holds n u (whole_bit n (facts s))) (away : Holds n p (away_bit n (facts s))) (outside : Holds n q (out_bit (void_of voids) n (facts s)))
    (A : Answers (void_of voids) 0 cs d u p t q before between) (kept : length between ≡ length before) where
  first : AnsweredFrom (marked s) 0 n (facts s) cs before between
  first =
      rw S.void.1 at
      (A.are n (facts s) (counted-settleable s S.sound).bounded (record { whole = S.void.0.whole; free = S.free; parts = S.parts; wholes = wholes; away = away; toward = S.toward; outside = outside }) S.fit)

  -- no claim is restricted
  pub answers-all : restricted cs ≡ false → between ≡ answers_to s n cs
  answers-all e = each-answered s n cs between (kept ∙ S.rooms) (λ j h. let o = none-restricted cs e j h in first.are j h o ∙ from_all s n cs j o)

  -- first the claims on all facts, then the restricted ones
  pub answers-both : {answers : List ℕ} → length answers ≡ length between → AnsweredFrom (void_of voids) 1 n (facts (sheets s)) cs between answers → answers ≡ answers_to s n cs
  answers-both {answers} z R = each-answered s n cs answers (z ∙ kept ∙ S.rooms) (λ j h. pick j h (ℕ_discrete (record_at cs j).origin 0))
    where
      second : AnsweredFrom (marked s) 1 n (facts (sheets s)) cs between answers
      second = rw S.void.1 at R

      pick : (j : ℕ) → j < records cs → Dec ((record_at cs j).origin ≡ 0) → get_or answers j 0 ≡ verdict (marked s) n (picked_facts s cs j) (claimed cs j)
      pick j h (yes o) = second.others j (λ x. omega arith) ∙ first.are j h o ∙ from_all s n cs j o
      pick j h (no o) = second.are j h (omega (arith, (accepted-claims n cs S.fit).origins j h)) ∙ from-sheets s n cs j o
