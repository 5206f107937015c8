-- Runs whose records stand in another run too: their facts are among its facts. The same records in another order pass the same rows.
-- Assumes nothing.
use Rattle.std.specs.Prelude.{Ok}
use Prim.Native.Nat.{ℕ, ◌+◌, ◌-◌, ◌*◌, ◌≤◌, ◌<◌}
use mathlib.Core.Path.{◌≡◌, sym, ap, subst, ◌∙◌}
use mathlib.Core.Bool.{Bool, true, false≢true}
use mathlib.Core.List.Memᴰ
use mathlib.Core.List.{List, ◌++◌}
use native.Mathlib.Omega.{arith}
use native.Mathlib.Decide.{ℕ_discrete, dec_lt}
use lib.ListN.{length, get_or, length-append, get_or-append}
use lib.Seq.{get_or-append-add, get_or-take, get_or-drop}
use Rattle.lists.proofs.Bools.{not-true}
use Rattle.rules.proofs.More.{Among}
use Rattle.records.specs.declared.Record.{Record}
use Rattle.records.specs.declared.Edition.TheVariants.{Current}
use Rattle.records.specs.Record.{record_at, records}
use Rattle.records.specs.Pieces.{stated, largest, piece_count}
use Rattle.records.specs.Rows.{same_bytes}
use Rattle.records.specs.Check.{book_check}
use Rattle.records.specs.Facts.{saying, facts}
use Rattle.records.specs.Kept.{bytes_at, kept, on_sheet, sheets, picked}
use Rattle.records.specs.Reordered.{Reordered}
use Rattle.records.proofs.Rows.{Formed}
use Rattle.records.proofs.Keys.{same-all, all_same}
use Rattle.records.proofs.Runs.{fact-here, fact-from, pieces-positive, pieces-cover, pieces-least}
use Rattle.records.proofs.Keeps.{record_same, kept-fact-from, kept-fact-here, picked_all, picked-sheets}
use Rattle.records.proofs.Accepted.{accepted, acceptable}

-- ---- each record of s is one of t

abbrev pub Found : List ℕ → List ℕ → Type 0
Found s t = (i : ℕ) → i < records s → (j : ℕ) × (j < records t) × (record_at t j ≡ record_at s i)

module _ (s t : List ℕ) (there : Found s t) where
  pub facts-found : Among (facts s) (facts t)
  facts-found f m =
      let a = fact-from s f m in
      let b = there a.0 a.1 in
      Memᴰ.cast (sym (ap saying b.2 ∙ a.3)) (fact-here t b.0 b.1 (ap stated b.2 ∙ a.2))

  kept-found : (p : Record → Bool) → Among (facts (kept p s)) (facts (kept p t))
  kept-found p f m =
      let a = kept-fact-from p s f m in
      let b = there a.0 a.1 in
      Memᴰ.cast (sym (ap saying b.2 ∙ a.4)) (kept-fact-here p t b.0 b.1 (ap p b.2 ∙ a.2) (ap stated b.2 ∙ a.3))

  sheets-found : Among (facts (sheets s)) (facts (sheets t))
  unfolding sheets
  sheets-found = kept-found on_sheet

  -- whatever the claim picks
  pub picked-found : (r : Record) → Among (facts (picked s r)) (facts (picked t r))
  picked-found r = pick (ℕ_discrete r.origin 0)
    where
      pick : Dec (r.origin ≡ 0) → Among (facts (picked s r)) (facts (picked t r))
      pick (yes e) = rw (picked_all s r e, picked_all t r e) facts-found
      pick (no e) = rw (picked-sheets s r e, picked-sheets t r e) sheets-found

  pub count-found : piece_count s ≤ piece_count t
  count-found =
      pieces-least s (records s) (piece_count t) (pieces-positive t (records t))
      (λ i l. let b = there i l in omega (arith, pieces-cover t (records t) b.0 b.1, ap largest b.2))

-- a run behind another
module _ (s r : List ℕ) (w : length s ≡ 6 * records s) where
  pub record-early : (i : ℕ) → i < records s → record_at (s ++ r) i ≡ record_at s i
  record-early i l = record_same (s ++ r) s i i (λ d h. get_or-append s r 0 (6 * i + d) (omega arith))

  pub record-late : (i : ℕ) → record_at (s ++ r) (records s + i) ≡ record_at r i
  record-late i =
      record_same (s ++ r) r (records s + i) i
      (λ d h. let e : 6 * (records s + i) + d ≡ length s + (6 * i + d) = omega arith in ap (λ (k : ℕ). get_or (s ++ r) k 0) e ∙ get_or-append-add s r (6 * i + d) 0)

  -- both stand in the longer one, and where both stand the longer one does
  pub found_before : Found s (s ++ r)
  found_before i l = (i, omega (arith, length-append s r), record-early i l)

  pub found-behind : Found r (s ++ r)
  found-behind i l = (records s + i, omega (arith, length-append s r), record-late i)

  pub found-both : (t : List ℕ) → Found s t → Found r t → Found (s ++ r) t
  found-both t f g i l = pick (dec_lt i (records s))
    where
      pick : Dec (i < records s) → (j : ℕ) × (j < records t) × (record_at t j ≡ record_at (s ++ r) i)
      pick (yes h) = let a = f i h in (a.0, a.1, a.2 ∙ sym (record-early i h))
      pick (no h) =
          let e : records s + (i - records s) ≡ i = omega arith in
          let a = g (i - records s) (omega (arith, length-append s r)) in
          (a.0, a.1, a.2 ∙ sym (record-late (i - records s)) ∙ ap (record_at (s ++ r)) e)

pub found-through : (s t u : List ℕ) → Found s t → Found t u → Found s u
found-through s t u f g i l = let a = f i l in let b = g a.0 a.1 in (b.0, b.1, b.2 ∙ a.2)

-- ---- the same records in another order

byte_of : (s : List ℕ) (i d : ℕ) → d < 6 → get_or (bytes_at s i) d 0 ≡ get_or s (6 * i + d) 0
unfolding bytes_at
byte_of s i d h = rw (get_or-take, get_or-drop)

module _ (s t : List ℕ) (R : Reordered s t) where
  same-records : records t ≡ records s
  same-records = omega (arith, R.long)

  byte-moved : (i : ℕ) → i < records s → (d : ℕ) → d < 6 → get_or t (6 * R.to i + d) 0 ≡ get_or s (6 * i + d) 0
  byte-moved i l d h = sym (byte_of t (R.to i) d h) ∙ ap (λ (x : List ℕ). get_or x d 0) (R.same i l) ∙ byte_of s i d h

  record-moved : (i : ℕ) → i < records s → record_at t (R.to i) ≡ record_at s i
  record-moved i l = record_same t s (R.to i) i (byte-moved i l)

  -- back: record i of t is record `from i` of s
  byte-back : (i : ℕ) → i < records s → (d : ℕ) → d < 6 → get_or s (6 * R.from i + d) 0 ≡ get_or t (6 * i + d) 0
  byte-back i l d h = sym (byte-moved (R.from i) (R.from_in i l) d h) ∙ ap (λ (k : ℕ). get_or t (6 * k + d) 0) (R.to-from i l)

  record-back : (i : ℕ) → i < records s → record_at s (R.from i) ≡ record_at t i
  record-back i l = record_same s t (R.from i) i (byte-back i l)

  pub found-moved : Found s t
  found-moved i l = (R.to i, omega (arith, R.to_in i l, same-records), record-moved i l)

  pub found_back : Found t s
  found_back i l = let k : i < records s = omega (arith, same-records) in (R.from i, R.from_in i k, record-back i k)

  module _ (n : ℕ) (e : book_check s ≡ Ok n) where
    alike : (i j : ℕ) → i < records s → j < records s → same_bytes t (6 * i) (6 * j) 6 ≡ true → same_bytes s (6 * R.from i) (6 * R.from j) 6 ≡ true
    alike i j l k q = all_same s (6 * R.from i) (6 * R.from j) 6 (λ d h. byte-back i l d h ∙ same-all t (6 * i) (6 * j) 6 q d h ∙ sym (byte-back j k d h))

    turned : (i j : ℕ) → same_bytes s (6 * i) (6 * j) 6 ≡ true → same_bytes s (6 * j) (6 * i) 6 ≡ true
    turned i j q = all_same s (6 * j) (6 * i) 6 (λ d h. sym (same-all s (6 * i) (6 * j) 6 q d h))

    distinct : (i j : ℕ) → i < records s → j < i → same_bytes t (6 * i) (6 * j) 6 ≡ true → ⊥
    distinct i j l k q = pick (dec_lt (R.from j) (R.from i)) (dec_lt (R.from i) (R.from j))
      where
        pick : Dec (R.from j < R.from i) → Dec (R.from i < R.from j) → ⊥
        pick (yes a) b = false≢true (sym ((accepted s n e).new (R.from i) (R.from j) (R.from_in i l) a) ∙ alike i j l (omega arith) q)
        pick (no a) (yes b) =
            false≢true (sym ((accepted s n e).new (R.from j) (R.from i) (R.from_in j (omega arith)) b) ∙ turned (R.from i) (R.from j) (alike i j l (omega arith) q))
        pick (no a) (no b) =
            let f : R.from i ≡ R.from j = omega arith in
            let g : i ≡ j = sym (R.to-from i l) ∙ ap R.to f ∙ R.to-from j (omega arith) in
            omega arith

    same_count : piece_count t ≡ n
    same_count = omega (arith, (accepted s n e).count, count-found s t found-moved, count-found t s found_back)

    -- no row 3 to 9 refuses it
    pub reordered-accepted : book_check t ≡ Ok n
    reordered-accepted =
        let A = accepted s n e in
        acceptable Current t n
        (record {
          few = omega (arith, A.few, same-records);
          whole = omega (arith, R.long, A.whole);
          count = sym same_count;
          each = λ i h. let l : i < records s = omega (arith, same-records) in subst (Formed Current) (record-back i l) (A.each (R.from i) (R.from_in i l));
          new = λ i j h k. not-true _ (distinct i j (omega (arith, same-records)) k);
        })
