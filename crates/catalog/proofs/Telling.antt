-- What the marks, D, T and the row of APART tell is what follows: the one place where the list of pieces meets the rules. Assumes nothing.
use Prim.Native.Nat.{ℕ, zero, suc, ◌+◌, ◌<◌, ◌≤◌}
use mathlib.Core.Path.{◌≡◌, refl, sym, ap, ap₂, ◌∙◌}
use mathlib.Core.Bool.{Bool, true, false, ◌&&◌, ◌||◌, or-false, or_assoc, or_comm, and_comm}
use mathlib.Core.List.{List}
use native.Mathlib.Omega.{arith}
use native.Mathlib.Numerals.{add-one}
use borrow.Author.Tests.{eq-eqb, ne_eqb}
use lib.ListN.{length}
use Rattle.lists.specs.Any.{any_below}
use Rattle.lists.specs.Front.{front}
use Rattle.matrices.specs.Matrix.{bit_of, common, Blank, United}
use Rattle.rules.specs.Fact.{Fact, fact_of, Within, AllWithin}
use Rattle.rules.specs.Follows.{storing, turned, follows, clash}
use Rattle.rules.proofs.Facts.{storing-same}
use Rattle.rules.proofs.Plain.{inside, follows-plain}
use Rattle.records.specs.Record.{record_at, records}
use Rattle.records.specs.declared.Record.{Record}
use Rattle.records.specs.Facts.{facts}
use Rattle.records.proofs.Accepted.{says-left, says-right}
use Rattle.closure.specs.Bounded.{Bounded}
use Rattle.verdicts.specs.ByMarks.{by_marks}
use Rattle.closure.specs.Closed.{Holds, part_bit, toward_bit}
use Rattle.verdicts.proofs.Answering.{first_found, first-passed, by_stored, marks-first, part-told, meets-told}
use Rattle.closure.proofs.Runs.{hits, storing-records, record-within}
use Rattle.lists.specs.Passing.{passing}
use Rattle.catalog.specs.Tells.{across, parting, Parted, Widened, shown, told}
use Rattle.lists.proofs.Passed.{passing-same}

-- ---- the row of APART, record by record

widened_none : (m : List ℕ) (f : ℕ → Bool) → ((x : ℕ) → f x ≡ false) → Widened m m f
widened_none m f h = record { bits = λ x l. sym (ap (λ (b : Bool). bit_of m 0 x || b) (h x) ∙ or-false (bit_of m 0 x)) }

pub widened-off : (m d : List ℕ) (a : ℕ) (on : Bool) → on ≡ false → Widened m m (λ x. on && bit_of d a x)
widened-off m d a on e = widened_none m (λ x. on && bit_of d a x) (λ x. rw e)

pub widened-on : (m m' d : List ℕ) (a : ℕ) (on : Bool) → on ≡ true → United m m' 0 d a → Widened m m' (λ x. on && bit_of d a x)
widened-on m m' d a on e U = record { bits = λ x l. U.row x l ∙ rw e }

module _ (d : List ℕ) (g : ℕ) (r : Record) where
  pub parting-off : (m : List ℕ) → (r.kind ≡ 2 → ⊥) → Widened m m (parting d g r)
  unfolding parting
  parting-off m n = widened_none m (parting d g r) (λ x. rw (ne_eqb r.kind 2 n))

  pub parting-on :
      (m m₁ m₂ : List ℕ) (u v : Bool) → r.kind ≡ 2 → u ≡ bit_of d r.b g → v ≡ bit_of d r.a g
      → Widened m m₁ (λ x. u && bit_of d r.a x) → Widened m₁ m₂ (λ x. v && bit_of d r.b x) → Widened m m₂ (parting d g r)
  unfolding parting across
  parting-on m m₁ m₂ u v k eu ev W X =
      record {
        bits = λ x l.
            X.bits x l ∙ rw (W.bits x l) (or_assoc (bit_of m 0 x) (u && bit_of d r.a x) (v && bit_of d r.b x) ∙ rw (eq-eqb r.kind 2 k, eu, ev));
      }

module _ (d s : List ℕ) (g : ℕ) where
  pub parted-none : (m : List ℕ) → Blank 1 m → Parted d s g 0 m
  unfolding any_below
  parted-none m C = record { bits = λ x h. C.bits 0 x (omega arith) h }

  pub parted-more :
      (m m' : List ℕ) (i : ℕ) (r : Record) → r ≡ record_at s i → Widened m m' (parting d g r) → Parted d s g i m → Parted d s g (i + 1) m'
  unfolding any_below
  parted-more m m' i r e W P =
      record {
        bits = λ x h. W.bits x h ∙ or_comm (bit_of m 0 x) (parting d g r x) ∙ rw (add-one i, e, P.bits x h);
      }

-- the pieces of an APART
pub apart-within :
    (s : List ℕ) (n : ℕ) → AllWithin n (facts s) → (i : ℕ) → i < records s → (record_at s i).kind ≡ 2 → ((record_at s i).a < n) × ((record_at s i).b < n)
apart-within s n w i l e = record-within s n w i l (omega arith) (omega arith)

-- ---- what the marks and the matrices tell, by kinds

module _ (void : ℕ → Bool) (d t m : List ℕ) (k g x : ℕ) (v : Bool) (marks : v ≡ by_marks void (fact_of k x g)) where
  pub told-marked : v ≡ true → true ≡ told void d t m k g x
  unfolding told
  told-marked = first_found v (by_marks void (fact_of k x g)) (shown d t m k g x) marks

  module _ (off : v ≡ false) (r : Bool) where
    past : r ≡ shown d t m k g x → r ≡ told void d t m k g x
    unfolding told
    past = first-passed v (by_marks void (fact_of k x g)) (shown d t m k g x) marks r off

    pub told_part : k ≡ 1 → r ≡ bit_of d g x → r ≡ told void d t m k g x
    unfolding shown
    told_part e is = past (is ∙ rw (eq-eqb k 1 e, shown))

    pub told-apart : (k ≡ 1 → ⊥) → k ≡ 2 → r ≡ bit_of m 0 x → r ≡ told void d t m k g x
    unfolding shown
    told-apart n e is = past (is ∙ rw (ne_eqb k 1 n, eq-eqb k 2 e, shown))

    pub told-meets : (k ≡ 1 → ⊥) → (k ≡ 2 → ⊥) → r ≡ common t x d g → r ≡ told void d t m k g x
    unfolding shown
    told-meets n e is = past (is ∙ rw (ne_eqb k 1 n, ne_eqb k 2 e, shown))

-- ---- against the rules

-- the pieces of a claim
pub claim-within : (n k g x : ℕ) → g < n → x < n → Within n (fact_of k x g)
claim-within n k g x lg lx =
    let r : Record = record { kind = k; origin = 0; a = x; b = g } in
    (rw (says-left r) lx, rw (says-right r) lg)

-- a stored APART of a piece that x is in and one that g is in
apart-shown :
    {n : ℕ} {fs : List Fact} (B : Bounded n fs) {d : List ℕ} → Holds n d (part_bit n fs) → {g x : ℕ} → g < n → x < n
    → storing fs 2 (across d g x) ≡ storing fs 2 (turned (λ a b. inside n fs x a && inside n fs g b))
unfolding across turned fact_of
apart-shown {n} {fs} B {d} D {g} {x} lg lx =
    storing-same fs 2 _ _
    (λ a b h.
    let w = B.within _ h in
    ap₂ ◌||◌
    (ap₂ ◌&&◌ (part-told B lg w.1 D) (part-told B lx w.0 D) ∙ and_comm (inside n fs g b) (inside n fs x a))
    (ap₂ ◌&&◌ (part-told B lg w.0 D) (part-told B lx w.1 D) ∙ and_comm (inside n fs g a) (inside n fs x b)))

module _ (void : ℕ → Bool) (s : List ℕ) (n : ℕ) (d t m : List ℕ) (B : Bounded n (facts s)) (D : Holds n d (part_bit n (facts s))) (T : Holds n t (toward_bit void n (facts s))) where
  -- what the matrices tell is what the stored facts tell
  shown-stored :
      (k g x : ℕ) → 1 ≤ k → k ≤ 3 → g < n → x < n → (k ≡ 2 → Parted d s g (records s) m) → shown d t m k g x ≡ by_stored void n (facts s) (fact_of k x g)
  unfolding shown fact_of parting hits by_stored
  shown-stored zero g x l h lg lx P = absurd (omega arith)
  shown-stored (suc zero) g x l h lg lx P = part-told B lx lg D
  shown-stored (suc (suc zero)) g x l h lg lx P =
      let f = B.fits in
      (P refl).bits x (omega arith) ∙ sym (storing-records s 2 (across d g x) (omega arith) (omega arith)) ∙ apart-shown B D lg lx
  shown-stored (suc (suc (suc zero))) g x l h lg lx P = meets-told B lx lg void D T
  shown-stored (suc (suc (suc (suc k)))) g x l h lg lx P = absurd (omega arith)

  module _ (z : void 0 ≡ false) (free : false ≡ clash void n (facts s)) (k g : ℕ) (l : 1 ≤ k) (h : k ≤ 3) (lg : g < n) (P : k ≡ 2 → Parted d s g (records s) m) where
    told-certain : (x : ℕ) → x < n → told void d t m k g x ≡ follows void n (facts s) (fact_of k x g)
    unfolding told
    told-certain x lx =
        ap (λ (v : Bool). by_marks void (fact_of k x g) || v) (shown-stored k g x l h lg lx P)
        ∙ sym (follows-plain void n (facts s) B.within B.some z (sym free) (fact_of k x g) (claim-within n k g x lg lx) ∙ marks-first void n (facts s) (fact_of k x g))

    -- so the list is of what follows
    pub list-certain :
        (list list' : List ℕ) (count : ℕ)
        → (list' ≡ front (passing (told void d t m k g) n) list) × (count ≡ length (passing (told void d t m k g) n))
        → (list' ≡ front (passing (λ x. follows void n (facts s) (fact_of k x g)) n) list) × (count ≡ length (passing (λ x. follows void n (facts s) (fact_of k x g)) n))
    list-certain list list' count L = rw (passing-same (told void d t m k g) (λ x. follows void n (facts s) (fact_of k x g)) n told-certain) at L
