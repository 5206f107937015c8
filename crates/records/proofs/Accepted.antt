-- What an accepted book and accepted claims are like. Assumes nothing.
use Rattle.std.specs.Prelude.{Err, Ok, Some}
use Rattle.records.specs.Refused.{Finding, refused_at}
use Prim.Native.Nat.{ℕ, ◌*◌, ◌%◌, ◌≤◌, ◌<◌}
use mathlib.Core.Path.{◌≡◌, refl, sym, ap, subst, ◌∙◌}
use mathlib.Core.Bool.{Bool, true, false, false≢true}
use mathlib.Core.List.{List}
use native.Mathlib.Omega.{arith}
use lib.ListN.{length, get_or}
use lib.Dec.{eqb, ltb, leb}
use borrow.Author.Tests.{eqb-true, eqb-false, ltb-true, ltb-false, leb-false, leb-true, not-false}
use Rattle.lists.proofs.Bools.{and_both, Known, is_true, is_false, known, not-true}
use Rattle.lists.proofs.Anys.{below-hit, below-find}
use Rattle.rules.specs.Fact.{Fact, PART, APART, MEETS, NOTPART, kind, left, right, fact_of, Within, AllWithin}
use Rattle.records.specs.declared.Record.{Record}
use Rattle.records.specs.declared.Refusal.{Refusal}
use Rattle.records.specs.declared.Edition.{Edition}
use Rattle.records.specs.declared.Edition.TheVariants.{Current}
use Rattle.records.specs.Record.{record_at, records}
use Rattle.records.specs.Refusal.{row, scan}
use Rattle.records.specs.Pieces.{stated, largest, piece_count}
use Rattle.records.specs.Rows.{ragged, more_than, same_bytes, repeat_row, claim_row, beyond_row}
use Rattle.records.specs.Check.{book_length, form_finding, record_finding, records_check, check_by, book_check, read, claim_at, claim_finding, claims_length, claims_check}
use Rattle.records.specs.Facts.{saying, facts}
use Rattle.records.proofs.Rows.{Formed, formed, fits, row-fit, both-largest}
use Rattle.records.proofs.Scans.{judged, all_fit, all_pass}
use Rattle.records.proofs.Books.{form-new, measured}
use Rattle.records.proofs.Keys.{equal-bytes}
use Rattle.records.proofs.Runs.{fact-from, pieces-positive, pieces-cover, pieces-least}

-- What a record of kind 1 to 4 says: its kind and its pieces.
made : (k a b : ℕ) (P : Fact → Type 0) → P (PART a b) → P (APART a b) → P (MEETS a b) → P (NOTPART a b) → P (fact_of k a b)
unfolding fact_of
made k a b P p q r t = pick (known (eqb k 1)) (known (eqb k 2)) (known (eqb k 3))
  where
    pick : Known (eqb k 1) → Known (eqb k 2) → Known (eqb k 3) → P (fact_of k a b)
    pick (is_true e) f g = rw (e, fact_of) p
    pick (is_false e) (is_true f) g = rw (e, f, fact_of) q
    pick (is_false e) (is_false f) (is_true g) = rw (e, f, g, fact_of) r
    pick (is_false e) (is_false f) (is_false g) = rw (e, f, g, fact_of) t

made-kind : (k a b : ℕ) → 1 ≤ k → k ≤ 4 → kind (fact_of k a b) ≡ k
unfolding fact_of
made-kind k a b l h = pick (known (eqb k 1)) (known (eqb k 2)) (known (eqb k 3))
  where
    pick : Known (eqb k 1) → Known (eqb k 2) → Known (eqb k 3) → kind (fact_of k a b) ≡ k
    pick (is_true e) f g = rw (e, fact_of) (sym (eqb-true k 1 e))
    pick (is_false e) (is_true f) g = rw (e, f, fact_of) (sym (eqb-true k 2 f))
    pick (is_false e) (is_false f) (is_true g) = rw (e, f, g, fact_of) (sym (eqb-true k 3 g))
    pick (is_false e) (is_false f) (is_false g) = rw (e, f, g, fact_of) (omega (arith, eqb-false k 1 e, eqb-false k 2 f, eqb-false k 3 g))

module _ (r : Record) where
  pub says-left : left (saying r) ≡ r.a
  says-left = made r.kind r.a r.b (λ f. left f ≡ r.a) refl refl refl refl

  pub says-right : right (saying r) ≡ r.b
  says-right = made r.kind r.a r.b (λ f. right f ≡ r.b) refl refl refl refl

  pub kind-of : stated r ≡ true → (1 ≤ r.kind) × (r.kind ≤ 4)
  unfolding stated
  kind-of t = let b = and_both (leb 1 r.kind) (leb r.kind 4) t in (leb-true _ _ b.0, leb-true _ _ b.1)

  pub says-kind : stated r ≡ true → kind (saying r) ≡ r.kind
  says-kind t = made-kind r.kind r.a r.b (kind-of t).0 (kind-of t).1

  -- both pieces of a claim within n
  pub claim-ends : {n : ℕ} → Within n (saying r) → (r.a < n) × (r.b < n)
  claim-ends w = (rw says-left at w.0, rw says-right at w.1)

  pub says-within : (n : ℕ) → stated r ≡ true → largest r < n → Within n (saying r)
  says-within n t l =
      let m = both-largest r t in
      let a : r.a < n = omega (arith, m) in
      let b : r.b < n = omega (arith, m) in
      made r.kind r.a r.b (Within n) (a, b) (a, b) (a, b) (a, b)

-- The facts of a run are within its piece count, and so within that of any longer run.
pub facts-within : (s : List ℕ) → AllWithin (piece_count s) (facts s)
facts-within s f m =
    let o = fact-from s f m in
    subst (Within (piece_count s)) o.3 (says-within (record_at s o.0) (piece_count s) o.2 (pieces-cover s (records s) o.0 o.1))

-- A book of p pieces that an edition accepts.
pub record AcceptedBook (e : Edition) (s : List ℕ) (p : ℕ) : Type 0 where
  pub few : records s ≤ 8192
  pub whole : length s ≡ 6 * records s
  pub count : p ≡ piece_count s
  pub each : (i : ℕ) → i < records s → Formed e (record_at s i)
  pub new : (i j : ℕ) → i < records s → j < i → same_bytes s (6 * i) (6 * j) 6 ≡ false

record-fit : (e : Edition) (s : List ℕ) (i : ℕ) → record_finding e s i ≡ Ok tt → (form_finding e (record_at s i) ≡ Ok tt) × (repeat_row s i ≡ false)
unfolding record_finding
record-fit e s i q =
    let j = judged Err (row (repeat_row s i) _ (Ok tt)) (form_finding e (record_at s i)) (λ r q. let z : ◌≡◌ {A = ℕ} 0 1 = cc in omega arith) q in
    (j.0, (row-fit (repeat_row s i) _ _ j.1).0)

no-acceptance : {A : Type 0} (p : A) (r : Refusal) (i : ℕ) → refused_at r i ≡ Ok p → ⊥
no-acceptance p r i q = let z : ◌≡◌ {A = ℕ} 0 1 = cc in omega arith

pub accepted-by : (e : Edition) (s : List ℕ) (p : ℕ) → check_by e s ≡ Ok p → AcceptedBook e s p
unfolding check_by
accepted-by e s p q =
    let j = judged (λ r. refused_at r 0) (records_check e s (records s)) (book_length s) (λ r. no-acceptance p r 0) q in
    let m = row-fit (ragged s) _ _ j.0 in
    let n = ltb-false 8192 (records s) (row-fit (more_than 8192 s) _ _ m.1).0 in
    let w = eqb-true (length s % 6) 0 (not-false (eqb (length s % 6) 0) m.0) in
    let a = all_fit refused_at (Ok (piece_count s)) (record_finding e s) (no-acceptance p) (records s) j.1 in
    let q = a.0 in
    record {
      few = n;
      whole = omega arith;
      count = cc;
      each = λ i h. formed e (record_at s i) (record-fit e s i (a.1 i h)).0;
      new = λ i j h l. not-true _ (λ t. false≢true (sym (record-fit e s i (a.1 i h)).1 ∙ below-hit (λ j. same_bytes s (6 * i) (6 * j) 6) i j l t));
    }

pub accepted : (s : List ℕ) (p : ℕ) → book_check s ≡ Ok p → AcceptedBook Current s p
accepted s p = accepted-by Current s p

-- and the edition accepts such a book
pub acceptable : (e : Edition) (s : List ℕ) (p : ℕ) → AcceptedBook e s p → check_by e s ≡ Ok p
acceptable e s p b =
    sym (measured e s (omega (arith, b.whole)) b.few)
    ∙ all_pass refused_at (Ok (piece_count s)) (record_finding e s) 0 (records s)
    (λ i h. form-new e s i (fits e (record_at s i) (b.each i (omega arith))) (not-true _ (λ t. let f = below-find (λ j. same_bytes s (6 * i) (6 * j) 6) i t in false≢true (sym (b.new i f.0 (omega arith) f.1) ∙ f.2))))
    ∙ ap Ok (sym b.count)

module _ {e : Edition} {s : List ℕ} {p : ℕ} (b : AcceptedBook e s p) where
  pub accepted-within : AllWithin p (facts s)
  accepted-within = rw b.count (facts-within s)

  pub accepted-positive : 1 ≤ p
  accepted-positive = rw b.count (pieces-positive s (records s))

  pub accepted-pieces : p ≤ 2048
  accepted-pieces = rw b.count (pieces-least s (records s) 2048 (omega arith) (λ i h. let f = (b.each i h).named in omega arith))

  -- records of different numbers differ
  module _ (h : (k : ℕ) → get_or s k 0 < 256) where
    later : (i j : ℕ) → i < records s → j < i → record_at s i ≡ record_at s j → ⊥
    later i j l k e = false≢true (sym (b.new i j l k) ∙ equal-bytes s i j h e)

    pub accepted-once : (i j : ℕ) → i < records s → j < records s → record_at s i ≡ record_at s j → i ≡ j
    accepted-once i j l k e = pick (known (ltb i j)) (known (ltb j i))
      where
        pick : Known (ltb i j) → Known (ltb j i) → i ≡ j
        pick (is_true p) q = absurd (later j i k (ltb-true i j p) (sym e))
        pick (is_false p) (is_true q) = absurd (later i j l (ltb-true j i q) e)
        pick (is_false p) (is_false q) = omega (arith, ltb-false i j p, ltb-false j i q)

-- An accepted list of claims on p pieces: each is read whole, and says something of those pieces.
pub record AcceptedClaims (p : ℕ) (s : List ℕ) : Type 0 where
  pub few : records s ≤ 4096
  pub whole : length s ≡ 6 * records s
  pub sound : (i : ℕ) → i < records s → claim_at s i ≡ Some (record_at s i)
  pub kinds : (i : ℕ) → i < records s → stated (record_at s i) ≡ true
  pub origins : (i : ℕ) → i < records s → (record_at s i).origin ≤ 1
  pub within : (i : ℕ) → i < records s → Within p (saying (record_at s i))

claim-row : (r : Record) → claim_row r ≡ false → (stated r ≡ true) × (r.origin ≤ 1)
claim-row r e = pick (known (stated r))
  where
    pick : Known (stated r) → (stated r ≡ true) × (r.origin ≤ 1)
    pick (is_true t) = (t, ltb-false 1 r.origin (rw t at e))
    pick (is_false t) = absurd (false≢true (sym e ∙ rw t))

claim-fit :
    (p : ℕ) (s : List ℕ) (i : ℕ) → claim_finding p (claim_at s i) ≡ Ok tt → (claim_at s i ≡ Some (record_at s i)) × ((stated (record_at s i) ≡ true) × ((record_at s i).origin ≤ 1)) × (largest (record_at s i) < p)
unfolding claim_at
claim-fit p s i = pick (claim_row (record_at s i)) refl
  where
    pick :
        (t : Bool) → claim_row (record_at s i) ≡ t → claim_finding p (read t (record_at s i)) ≡ Ok tt
        → (read t (record_at s i) ≡ Some (record_at s i)) × ((stated (record_at s i) ≡ true) × ((record_at s i).origin ≤ 1)) × (largest (record_at s i) < p)
    pick true q e = absurd (let z : ◌≡◌ {A = ℕ} 0 1 = cc in omega arith)
    pick false q e = (refl, claim-row (record_at s i) q, leb-false p (largest (record_at s i)) (row-fit (beyond_row p (record_at s i)) _ _ e).0)

pub accepted-claims : (p : ℕ) (s : List ℕ) → claims_check p s ≡ Ok tt → AcceptedClaims p s
unfolding claims_check
accepted-claims p s e =
    let find : ℕ → Finding = λ i. claim_finding p (claim_at s i) in
    let j = judged (λ r. refused_at r 0) (scan refused_at (Ok tt) find 0 (records s)) (claims_length s) (λ r. no-acceptance tt r 0) e in
    let m = row-fit (ragged s) _ _ j.0 in
    let n = ltb-false 4096 (records s) (row-fit (more_than 4096 s) _ _ m.1).0 in
    let w = eqb-true (length s % 6) 0 (not-false (eqb (length s % 6) 0) m.0) in
    let a = all_fit refused_at (Ok tt) find (no-acceptance tt) (records s) j.1 in
    record {
      few = n;
      whole = omega arith;
      sound = λ i h. (claim-fit p s i (a.1 i h)).0;
      kinds = λ i h. (claim-fit p s i (a.1 i h)).1.0;
      origins = λ i h. (claim-fit p s i (a.1 i h)).1.1;
      within = λ i h. let f = claim-fit p s i (a.1 i h) in says-within (record_at s i) p f.1.0 f.2;
    }
