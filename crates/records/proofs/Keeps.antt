-- The run of the records that pass a test: where its records and its facts come from. Assumes nothing.
use Prim.Native.Nat.{ℕ, zero, suc, ◌+◌, ◌*◌, ◌≤◌, ◌<◌}
use mathlib.Core.Path.{◌≡◌, refl, sym, ap, ap₂, ◌∙◌}
use mathlib.Core.Bool.{Bool, true, false, false≢true, ◌||◌}
use mathlib.Core.List.Memᴰ
use mathlib.Core.List.{List, [], ◌∷◌, ◌++◌, append-nil, Memᴰ}
use native.Mathlib.Nat.{add-zero}
use native.Mathlib.Numerals.{add-one}
use native.Mathlib.Omega.{arith}
use native.Mathlib.Decide.{ℕ_discrete}
use borrow.Author.Tests.{eq-eqb, ne_eqb, ltb-true, ltb-false}
use lib.Dec.{ltb, eqb}
use lib.ListN.{length, get_or, take, drop, set, length-append, length-take, length-drop, get_or-append}
use lib.Seq.{get_or-append-add, get_or-take, get_or-drop, take_all, take_at, drop-cons}
use Rattle.lists.specs.Front.{front, placed}
use Rattle.lists.proofs.Bools.{Known, is_true, is_false, known, right_or}
use Rattle.lists.proofs.Fronts.{placed-none, placed-sets, placed-front}
use Rattle.rules.specs.Fact.{Fact}
use Rattle.rules.specs.Entries.{facts_of}
use Rattle.rules.proofs.More.{Among}
use Rattle.records.specs.declared.Record.{Record}
use Rattle.records.specs.Record.{record_at, records}
use Rattle.records.specs.Pieces.{stated, largest, piece_count}
use Rattle.records.specs.Facts.{saying, entry_of, facts}
use Rattle.records.specs.Kept.{bytes_at, bytes_where, kept_up_to, kept, on_sheet, sheets, picked}
use Rattle.records.specs.Rows.{same_bytes}
use Rattle.records.proofs.Keys.{same-all}
use Rattle.records.proofs.Runs.{facts-more, entry-none, fact-here, fact-from, pieces-positive, pieces-cover, pieces-least}

-- ---- the six bytes of a record

take-six :
    (s : List ℕ) (k : ℕ) → k + 6 ≤ length s
    → take 6 (drop k s) ≡ get_or s k 0 ∷ get_or s (suc k) 0 ∷ get_or s (suc (suc k)) 0 ∷ get_or s (suc (suc (suc k))) 0 ∷ get_or s (suc (suc (suc (suc k)))) 0 ∷ get_or s (suc (suc (suc (suc (suc k))))) 0 ∷ []
take-six s k h =
    rw (drop-cons s k 0 (omega arith), drop-cons s (suc k) 0 (omega arith), drop-cons s (suc (suc k)) 0 (omega arith), drop-cons s (suc (suc (suc k))) 0 (omega arith), drop-cons s (suc (suc (suc (suc k)))) 0 (omega arith), drop-cons s (suc (suc (suc (suc (suc k))))) 0 (omega arith))

-- six stores are one placing
pub copied :
    (s out : List ℕ) (i at : ℕ) → 6 * i + 6 ≤ length s → at + 6 ≤ length out
    → set (set (set (set (set (set out at (get_or s (6 * i) 0)) (at + 1) (get_or s (6 * i + 1) 0)) (at + 2) (get_or s (6 * i + 2) 0)) (at + 3) (get_or s (6 * i + 3) 0)) (at + 4) (get_or s (6 * i + 4) 0)) (at + 5) (get_or s (6 * i + 5) 0)
    ≡ placed at (bytes_at s i) out
unfolding bytes_at
copied s out i at h k =
    let a2 : at + 2 ≡ suc (suc at) = omega arith in
    let a3 : at + 3 ≡ suc (suc (suc at)) = omega arith in
    let a4 : at + 4 ≡ suc (suc (suc (suc at))) = omega arith in
    let a5 : at + 5 ≡ suc (suc (suc (suc (suc at)))) = omega arith in
    let b2 : 6 * i + 2 ≡ suc (suc (6 * i)) = omega arith in
    let b3 : 6 * i + 3 ≡ suc (suc (suc (6 * i))) = omega arith in
    let b4 : 6 * i + 4 ≡ suc (suc (suc (suc (6 * i)))) = omega arith in
    let b5 : 6 * i + 5 ≡ suc (suc (suc (suc (suc (6 * i))))) = omega arith in
    rw (take-six s (6 * i) h, add-one at, a2, a3, a4, a5, add-one (6 * i), b2, b3, b4, b5)
    (placed-sets (get_or s (6 * i) 0 ∷ get_or s (suc (6 * i)) 0 ∷ get_or s (suc (suc (6 * i))) 0 ∷ get_or s (suc (suc (suc (6 * i)))) 0 ∷ get_or s (suc (suc (suc (suc (6 * i))))) 0 ∷ get_or s (suc (suc (suc (suc (suc (6 * i)))))) 0 ∷ []) out at k)

-- a record copied or not
pub where-not : (s out : List ℕ) (i at : ℕ) {on : Bool} → on ≡ false → (out ≡ placed at (bytes_where on s i) out) × (at ≡ at + length (bytes_where on s i))
unfolding bytes_where
where-not s out i at e = rw e (sym (placed-none at out), sym (add-zero at))

pub bytes-length : (s : List ℕ) (i : ℕ) → 6 * i + 6 ≤ length s → length (bytes_at s i) ≡ 6
unfolding bytes_at
bytes-length s i h = simp (length-take, length-drop) (omega arith)

pub where-so :
    (s out out' : List ℕ) (i at : ℕ) {on : Bool} → 6 * i + 6 ≤ length s → on ≡ true → out' ≡ placed at (bytes_at s i) out
    → (out' ≡ placed at (bytes_where on s i) out) × (at + 6 ≡ at + length (bytes_where on s i))
unfolding bytes_where
where-so s out out' i at h e q = rw e (q, omega (arith, bytes-length s i h))

-- records of the same six bytes are equal
pub record_same : (s t : List ℕ) (i j : ℕ) → ((d : ℕ) → d < 6 → get_or s (6 * i + d) 0 ≡ get_or t (6 * j + d) 0) → record_at s i ≡ record_at t j
unfolding record_at
record_same s t i j h =
    let z : get_or s (6 * i) 0 ≡ get_or t (6 * j) 0 = ap (λ (k : ℕ). get_or s k 0) (sym (add-zero (6 * i))) ∙ h 0 (omega arith) ∙ ap (λ (k : ℕ). get_or t k 0) (add-zero (6 * j)) in
    rw (z, h 1 (omega arith), h 2 (omega arith), h 3 (omega arith), h 4 (omega arith), h 5 (omega arith))

pub same-record : (s : List ℕ) (i j : ℕ) → same_bytes s (6 * i) (6 * j) 6 ≡ true → record_at s i ≡ record_at s j
same-record s i j e = record_same s s i j (same-all s (6 * i) (6 * j) 6 e)

-- A run of k records with the bytes of record i of s behind it.
module _ (a s : List ℕ) (k i : ℕ) (e : length a ≡ 6 * k) (h : 6 * i + 6 ≤ length s) where
  pub record-before : (j : ℕ) → j < k → record_at (a ++ bytes_at s i) j ≡ record_at a j
  record-before j l = record_same (a ++ bytes_at s i) a j j (λ d b. get_or-append a (bytes_at s i) 0 (6 * j + d) (omega arith))

  pub record-behind : record_at (a ++ bytes_at s i) k ≡ record_at s i
  unfolding bytes_at
  record-behind =
      record_same (a ++ bytes_at s i) s k i
      (λ d b. ap (λ (m : ℕ). get_or (a ++ bytes_at s i) (m + d) 0) (sym e) ∙ get_or-append-add a (bytes_at s i) d 0 ∙ get_or-take 6 (drop (6 * i) s) d 0 b ∙ get_or-drop (6 * i) s d 0)

  facts-behind : facts (a ++ bytes_at s i) ≡ facts a ++ facts_of (entry_of (record_at s i) ∷ [])
  facts-behind =
      let n : length (a ++ bytes_at s i) ≡ 6 * (k + 1) = length-append a (bytes_at s i) ∙ omega (arith, bytes-length s i h) in
      ap facts (sym (take_all (6 * (k + 1)) (a ++ bytes_at s i) (omega arith))) ∙ facts-more (a ++ bytes_at s i) k (omega arith)
      ∙ ap₂ (λ (x : List ℕ) (r : Record). facts x ++ facts_of (entry_of r ∷ [])) (take_at a (bytes_at s i) (6 * k) e) record-behind

-- ---- the records that pass

unfoldable pub one : Bool → ℕ
one true = 1
one false = 0

module _ (p : Record → Bool) (s : List ℕ) where
  -- how many of the first n records pass
  unfoldable pub passed : ℕ → ℕ
  passed zero = 0
  passed (suc n) = passed n + one (p (record_at s n))

  pub passed-few : (n : ℕ) → passed n ≤ n
  unfolding passed one
  passed-few zero = omega arith
  passed-few (suc n) = pick (p (record_at s n)) (passed-few n)
    where
      pick : (b : Bool) → passed n ≤ n → passed n + one b ≤ suc n
      pick true h = omega arith
      pick false h = omega arith

  -- where one fails, fewer pass
  pub passed-less : (n i : ℕ) → i < n → p (record_at s i) ≡ false → passed n < n
  unfolding passed one
  passed-less zero i l e = absurd (omega arith)
  passed-less (suc n) i l e = pick (ℕ_discrete i n) (p (record_at s n)) refl (λ k. passed-less n i k e)
    where
      pick : Dec (i ≡ n) → (b : Bool) → p (record_at s n) ≡ b → (i < n → passed n < n) → passed n + one b < suc n
      pick (yes q) true f rest = absurd (false≢true (sym e ∙ ap (λ (k : ℕ). p (record_at s k)) q ∙ f))
      pick (no q) true f rest = omega (arith, rest (omega arith))
      pick d false f rest = omega (arith, passed-few n)

  -- one record more: it passes, or not
  data Next (n : ℕ) : Type 0 where
    passes : p (record_at s n) ≡ true → passed (suc n) ≡ passed n + 1 → kept_up_to p s (suc n) ≡ kept_up_to p s n ++ bytes_at s n → Next n
    fails : p (record_at s n) ≡ false → passed (suc n) ≡ passed n → kept_up_to p s (suc n) ≡ kept_up_to p s n → Next n

  next : (n : ℕ) → Next n
  unfolding passed one kept_up_to bytes_where
  next n = pick (known (p (record_at s n)))
    where
      pick : Known (p (record_at s n)) → Next n
      pick (is_true e) = passes e (rw e) (rw e)
      pick (is_false e) = fails e (rw e (add-zero (passed n))) (rw e (append-nil (kept_up_to p s n)))

  pub kept-length : (n : ℕ) → 6 * n ≤ length s → length (kept_up_to p s n) ≡ 6 * passed n
  unfolding passed kept_up_to
  kept-length zero h = refl
  kept-length (suc n) h = pick (next n) (kept-length n (omega arith))
    where
      pick : Next n → length (kept_up_to p s n) ≡ 6 * passed n → length (kept_up_to p s (suc n)) ≡ 6 * passed (suc n)
      pick (passes e f g) l = rw (f, g) (length-append (kept_up_to p s n) (bytes_at s n) ∙ omega (arith, bytes-length s n (omega arith)))
      pick (fails e f g) l = rw (f, g) l

  -- record j of the kept run is a record of s that passes
  abbrev pub From : ℕ → ℕ → Type 0
  From n j = (i : ℕ) × (i < n) × (p (record_at s i) ≡ true) × (record_at (kept_up_to p s n) j ≡ record_at s i)

  pub record-from : (n : ℕ) → 6 * n ≤ length s → (j : ℕ) → j < passed n → From n j
  unfolding passed
  record-from zero h j l = absurd (omega arith)
  record-from (suc n) h j l = pick (next n) (ℕ_discrete j (passed n)) (record-from n (omega arith) j)
    where
      pick : Next n → Dec (j ≡ passed n) → (j < passed n → From n j) → From (suc n) j
      pick (passes e f g) (yes q) rest =
          (n, omega arith, e, rw (g, q) (record-behind (kept_up_to p s n) s (passed n) n (kept-length n (omega arith)) (omega arith)))
      pick (passes e f g) (no q) rest =
          let r = rest (omega arith) in
          (r.0, omega (arith, r.1), r.2, rw g (record-before (kept_up_to p s n) s (passed n) n (kept-length n (omega arith)) (omega arith) j (omega arith) ∙ r.3))
      pick (fails e f g) d rest = let r = rest (omega arith) in (r.0, omega (arith, r.1), r.2, rw g r.3)

  -- each record of s that passes is a record of the kept run
  abbrev pub There : ℕ → ℕ → Type 0
  There n i = (j : ℕ) × (j < passed n) × (record_at (kept_up_to p s n) j ≡ record_at s i)

  pub record-there : (n : ℕ) → 6 * n ≤ length s → (i : ℕ) → i < n → p (record_at s i) ≡ true → There n i
  record-there zero h i l t = absurd (omega arith)
  record-there (suc n) h i l t = pick (next n) (ℕ_discrete i n) (λ m. record-there n (omega arith) i m t)
    where
      pick : Next n → Dec (i ≡ n) → (i < n → There n i) → There (suc n) i
      pick (passes e f g) (yes q) rest =
          (passed n, omega arith, rw (g, q) (record-behind (kept_up_to p s n) s (passed n) n (kept-length n (omega arith)) (omega arith)))
      pick (passes e f g) (no q) rest =
          let r = rest (omega arith) in
          (r.0, omega (arith, r.1), rw g (record-before (kept_up_to p s n) s (passed n) n (kept-length n (omega arith)) (omega arith) r.0 r.1 ∙ r.2))
      pick (fails e f g) (yes q) rest = absurd (false≢true (sym e ∙ ap (λ (k : ℕ). p (record_at s k)) (sym q) ∙ t))
      pick (fails e f g) (no q) rest = let r = rest (omega arith) in (r.0, omega (arith, r.1), rw g r.2)

  -- and in their order
  abbrev pub FromTwo : ℕ → ℕ → ℕ → Type 0
  FromTwo n j k = (i : ℕ) × (l : ℕ) × (i < l) × (l < n) × (record_at (kept_up_to p s n) j ≡ record_at s i) × (record_at (kept_up_to p s n) k ≡ record_at s l)

  pub records-from : (n : ℕ) → 6 * n ≤ length s → (j k : ℕ) → j < k → k < passed n → FromTwo n j k
  unfolding passed
  records-from zero h j k l m = absurd (omega arith)
  records-from (suc n) h j k l m = pick (next n) (ℕ_discrete k (passed n)) (records-from n (omega arith) j k l)
    where
      pick : Next n → Dec (k ≡ passed n) → (k < passed n → FromTwo n j k) → FromTwo (suc n) j k
      pick (passes e f g) (yes q) rest =
          let long = kept-length n (omega arith) in
          let r = record-from n (omega arith) j (omega arith) in (
            r.0,
            n,
            r.1,
            omega arith,
            rw g (record-before (kept_up_to p s n) s (passed n) n long (omega arith) j (omega arith) ∙ r.3),
            rw (g, q) (record-behind (kept_up_to p s n) s (passed n) n long (omega arith)),
          )
      pick (passes e f g) (no q) rest =
          let before = record-before (kept_up_to p s n) s (passed n) n (kept-length n (omega arith)) (omega arith) in
          let r = rest (omega arith) in
          (r.0, r.1, r.2, omega (arith, r.3), rw g (before j (omega arith) ∙ r.4), rw g (before k (omega arith) ∙ r.5))
      pick (fails e f g) d rest = let r = rest (omega arith) in (r.0, r.1, r.2, omega (arith, r.3), rw g r.4, rw g r.5)

  -- The whole run.
  pub kept-records : records (kept p s) ≡ passed (records s)
  kept-records = omega (arith, kept-length (records s) (omega arith))

  pub kept-fewer : records (kept p s) ≤ records s
  kept-fewer = omega (arith, kept-records, passed-few (records s))

  pub kept_whole : length (kept p s) ≡ 6 * records (kept p s)
  kept_whole = omega (arith, kept-length (records s) (omega arith))

  pub kept_from : (j : ℕ) → j < records (kept p s) → From (records s) j
  kept_from j l = record-from (records s) (omega arith) j (omega (arith, kept-records))

  -- where a piece number is lost, so is a record
  pub kept-shorter : piece_count (kept p s) < piece_count s → records (kept p s) < records s
  kept-shorter h = pick (known (ltb (records (kept p s)) (records s)))
    where
      passes-all : ltb (records (kept p s)) (records s) ≡ false → (i : ℕ) → i < records s → Known (p (record_at s i)) → p (record_at s i) ≡ true
      passes-all e i l (is_true t) = t
      passes-all e i l (is_false t) = absurd (omega (arith, passed-less (records s) i l t, ltb-false (records (kept p s)) (records s) e, kept-records))

      pick : Known (ltb (records (kept p s)) (records s)) → records (kept p s) < records s
      pick (is_true e) = ltb-true _ _ e
      pick (is_false e) =
          let all : (i : ℕ) → i < records s → p (record_at s i) ≡ true = λ i l. passes-all e i l (known (p (record_at s i))) in
          let least : piece_count s ≤ piece_count (kept p s) =
          pieces-least s (records s) (piece_count (kept p s)) (pieces-positive (kept p s) (records (kept p s)))
          (λ i l.
          let b = record-there (records s) (omega arith) i l (all i l) in
          omega (arith, ap largest b.2, pieces-cover (kept p s) (records (kept p s)) b.0 (omega (arith, kept-records)))) in
          absurd (omega arith)

  pub kept-fact-from : (f : Fact) → Memᴰ f (facts (kept p s)) → (i : ℕ) × (i < records s) × (p (record_at s i) ≡ true) × (stated (record_at s i) ≡ true) × (saying (record_at s i) ≡ f)
  kept-fact-from f m =
      let a = fact-from (kept p s) f m in
      let b = kept_from a.0 a.1 in
      (b.0, b.1, b.2, ap stated (sym b.3) ∙ a.2, ap saying (sym b.3) ∙ a.3)

  pub kept-fact-here : (i : ℕ) → i < records s → p (record_at s i) ≡ true → stated (record_at s i) ≡ true → Memᴰ (saying (record_at s i)) (facts (kept p s))
  kept-fact-here i l t d =
      let b = record-there (records s) (omega arith) i l t in
      Memᴰ.cast (sym (ap saying b.2)) (fact-here (kept p s) b.0 (omega (arith, kept-records)) (ap stated b.2 ∙ d))

  pub kept-among : Among (facts (kept p s)) (facts s)
  kept-among f m = let a = kept-fact-from f m in Memᴰ.cast (sym a.4) (fact-here s a.0 a.1 a.3)

  -- records that state nothing may be dropped
  module _ (silent : (i : ℕ) → i < records s → p (record_at s i) ≡ false → stated (record_at s i) ≡ false) where
    facts-up-to : (n : ℕ) → n ≤ records s → facts (kept_up_to p s n) ≡ facts (take (6 * n) s)
    unfolding kept_up_to facts_of
    facts-up-to zero h = refl
    facts-up-to (suc n) h = pick (next n) (facts-up-to n (omega arith)) ∙ sym (facts-more s n (omega arith)) ∙ ap (λ (k : ℕ). facts (take (6 * k) s)) (add-one n)
      where
        pick : Next n → facts (kept_up_to p s n) ≡ facts (take (6 * n) s) → facts (kept_up_to p s (suc n)) ≡ facts (take (6 * n) s) ++ facts_of (entry_of (record_at s n) ∷ [])
        pick (passes e f g) r = rw g (facts-behind (kept_up_to p s n) s (passed n) n (kept-length n (omega arith)) (omega arith) ∙ ap (λ (l : List Fact). l ++ facts_of (entry_of (record_at s n) ∷ [])) r)
        pick (fails e f g) r = rw (g, entry-none (record_at s n) (silent n (omega arith) e)) (r ∙ sym (append-nil (facts (take (6 * n) s))))

    pub kept-same-facts : length s ≡ 6 * records s → facts (kept p s) ≡ facts s
    kept-same-facts w = facts-up-to (records s) (omega arith) ∙ ap facts (take_all (6 * records s) s (omega arith))

  -- ---- the run written record by record to the front of a buffer l

  abbrev pub Written : List ℕ → ℕ → List ℕ → ℕ → Type 0
  Written l n out at = (out ≡ front (kept_up_to p s n) l) × (at ≡ length (kept_up_to p s n))

  pub written_none : (l : List ℕ) → Written l 0 l 0
  unfolding kept_up_to front
  written_none l = (refl, refl)

  pub written-more :
      (l out out' : List ℕ) (n at at' : ℕ) (on : Bool) (r : Record) → Written l n out at → r ≡ record_at s n → on ≡ p r
      → out' ≡ placed at (bytes_where on s n) out → at' ≡ at + length (bytes_where on s n) → Written l (n + 1) out' at'
  unfolding kept_up_to
  written-more l out out' n at at' on r w e f g k =
      let b : on ≡ p (record_at s n) = f ∙ ap p e in
      rw (add-one n, ← b) (
        g ∙ ap₂ (λ (i : ℕ) (x : List ℕ). placed i (bytes_where on s n) x) w.1 w.0 ∙ placed-front (kept_up_to p s n) (bytes_where on s n) l,
        k ∙ ap (λ (i : ℕ). i + length (bytes_where on s n)) w.1 ∙ sym (length-append (kept_up_to p s n) (bytes_where on s n)),
      )

  pub written-few : (l out : List ℕ) (n at : ℕ) → Written l n out at → 6 * n ≤ length s → at ≤ 6 * n
  written-few l out n at w h = omega (arith, w.1, kept-length n h, passed-few n)

  pub written_all : (l out : List ℕ) (i at : ℕ) → i ≤ records s → records s ≤ i → Written l i out at → (at ≡ length (kept p s)) × (out ≡ front (kept p s) l)
  written_all l out i at h k w =
      let e : i ≡ records s = omega arith in
      (w.1 ∙ ap (λ (n : ℕ). length (kept_up_to p s n)) e, w.0 ∙ ap (λ (n : ℕ). front (kept_up_to p s n) l) e)

-- ---- the run of the cutting sheets, and the run that a claim picks

pub written-sheets :
    (s l out : List ℕ) (i at : ℕ) → i ≤ records s → records s ≤ i → Written on_sheet s l i out at → (at ≡ length (sheets s)) × (out ≡ front (sheets s) l)
unfolding sheets
written-sheets s l out i at h k w = written_all on_sheet s l out i at h k w

pub sheets-among : (s : List ℕ) → Among (facts (sheets s)) (facts s)
unfolding sheets
sheets-among s = kept-among on_sheet s

pub sheets-shorter : (s : List ℕ) → length (sheets s) ≤ length s
unfolding sheets
sheets-shorter s = omega (arith, kept_whole on_sheet s, kept-fewer on_sheet s)

pub picked_all : (s : List ℕ) (r : Record) → r.origin ≡ 0 → picked s r ≡ s
unfolding picked
picked_all s r e = rw (eq-eqb r.origin 0 e, picked)

pub picked-sheets : (s : List ℕ) (r : Record) → (r.origin ≡ 0 → ⊥) → picked s r ≡ sheets s
unfolding picked
picked-sheets s r n = rw (ne_eqb r.origin 0 n, picked)

pub picked-among : (s : List ℕ) (r : Record) → Among (facts (picked s r)) (facts s)
picked-among s r = pick (ℕ_discrete r.origin 0)
  where
    pick : Dec (r.origin ≡ 0) → Among (facts (picked s r)) (facts s)
    pick (yes e) = rw (picked_all s r e) (λ f m. m)
    pick (no e) = rw (picked-sheets s r e) (sheets-among s)

-- the facts of that run come from the records that the claim lets pass
abbrev pub lets_pass : Record → Record → Bool
lets_pass claim r = eqb claim.origin 0 || on_sheet r

abbrev pub PickedFrom : List ℕ → Record → Fact → Type 0
PickedFrom s claim f = (i : ℕ) × (i < records s) × (lets_pass claim (record_at s i) ≡ true) × (stated (record_at s i) ≡ true) × (saying (record_at s i) ≡ f)

module _ (s : List ℕ) (claim : Record) where
  pub picked-from : (f : Fact) → Memᴰ f (facts (picked s claim)) → PickedFrom s claim f
  unfolding sheets
  picked-from f m = pick (ℕ_discrete claim.origin 0)
    where
      pick : Dec (claim.origin ≡ 0) → PickedFrom s claim f
      pick (yes e) = let a = fact-from s f (rw (picked_all s claim e) at m) in (a.0, a.1, rw (eq-eqb claim.origin 0 e), a.2, a.3)
      pick (no e) = let a = kept-fact-from on_sheet s f (rw (picked-sheets s claim e) at m) in (a.0, a.1, right_or (eqb claim.origin 0) a.2, a.3, a.4)

  pub picked-here : (i : ℕ) → i < records s → lets_pass claim (record_at s i) ≡ true → stated (record_at s i) ≡ true → Memᴰ (saying (record_at s i)) (facts (picked s claim))
  unfolding sheets
  picked-here i l t d = pick (ℕ_discrete claim.origin 0)
    where
      pick : Dec (claim.origin ≡ 0) → Memᴰ (saying (record_at s i)) (facts (picked s claim))
      pick (yes e) = rw (picked_all s claim e) (fact-here s i l d)
      pick (no e) = rw (picked-sheets s claim e) (kept-fact-here on_sheet s i l (rw (ne_eqb claim.origin 0 e) at t) d)
