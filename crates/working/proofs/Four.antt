-- An addition gets number 4 only with 8,192 or more records standing. Assumes nothing.
use Rattle.std.specs.Prelude.{Err, Ok}
use Rattle.records.specs.Refused.{BookCheck, Finding, refused_at}
use Rattle.outcomes.specs.Accepted.{Outcome, accepted_with}
use mathlib.Core.Path.{◌≡◌, refl, subst}
use mathlib.Core.Bool.{Bool, true, false, not}
use mathlib.Core.List.{List, []}
use Prim.Native.Nat.{ℕ, zero, suc, ◌*◌, ◌-◌, ◌≤◌, ◌<◌}
use native.Mathlib.Omega.{arith}
use borrow.Author.Tests.{ltb-true, eqb-true, not-false}
use lib.Dec.{ltb, leb, eqb}
use lib.ListN.{length, take, length-append, length-take}
use Rattle.rules.specs.Entries.{shortest_clash}
use Rattle.records.specs.Marked.{marked}
use Rattle.records.specs.Record.{record_at, records}
use Rattle.records.specs.Facts.{entries}
use Rattle.records.specs.Refusal.{refusal_number, row, judge, scan}
use Rattle.records.specs.Rows.{ragged, more_than, kind_row, origin_row, piece_row, void_row, order_row, repeat_row}
use Rattle.records.specs.Check.{book_check, check_by, claims_check, form_finding, record_finding}
use Rattle.records.specs.declared.Edition.TheVariants.{Current}
use Rattle.records.specs.declared.Record.{Record}
use Rattle.records.specs.declared.Refusal.{Refusal}
use Rattle.records.specs.declared.Refusal.TheVariants.{ShortBuffer, BookLength, TooManyRecords, Kind, Origin, PieceNumber, VoidForm, Order, Repeat, Contradiction}
use Rattle.groups.specs.Index.{book_visits}
use Rattle.outcomes.specs.Call.{pairs_of, by_book, by_claims, by_runs}
use Rattle.index.specs.Parts as on
use Rattle.outcomes.specs.Fresh.{fresh_call}
use Rattle.working.specs.Standing.{standing, extended}
use Rattle.outcomes.specs.One.{refuse_if}
use Rattle.working.specs.Rows.{by_area, add_outcome}
use Rattle.working.specs.Four.{FourOnly}

-- number 4 is given only where B holds
module _ (B : Type 0) where
  abbrev Only : Refusal → Type 0
  Only r = refusal_number r ≡ 4 → B

  abbrev Onlys : Finding → Type 0
  Onlys f = (r : Refusal) → f ≡ Err r → Only r

  fit-only : Onlys (Ok tt)
  fit-only r e = let z : ◌≡◌ {A = ℕ} 0 1 = cc in absurd (omega arith)

  row-only : (b : Bool) (x : Refusal) (f : Finding) → (b ≡ true → Only x) → Onlys f → Onlys (row b x f)
  row-only true x f o h r e = let q : x ≡ r = cc in rw q at (o refl)
  row-only false x f o h r e = h r e

  judge-only : (f g : Finding) → Onlys f → Onlys g → Onlys (judge Err g f)
  judge-only (Ok _) g h k = k
  judge-only (Err x) g h k = h

  form-only : (r : Record) → Onlys (form_finding Current r)
  unfolding form_finding
  form-only r = row-only (kind_row Current r) Kind _ (λ _ n. absurd (omega arith)) (row-only (origin_row r) Origin _ (λ _ n. absurd (omega arith)) (row-only (piece_row r) PieceNumber _ (λ _ n. absurd (omega arith)) (row-only (void_row r) VoidForm _ (λ _ n. absurd (omega arith)) (row-only (order_row Current r) Order _ (λ _ n. absurd (omega arith)) fit-only))))

  record-only : (s : List ℕ) (i : ℕ) → Onlys (record_finding Current s i)
  unfolding record_finding
  record-only s i = judge-only (form_finding Current (record_at s i)) _ (form-only (record_at s i)) (row-only (repeat_row s i) Repeat _ (λ _ n. absurd (omega arith)) fit-only)

  abbrev BookOnly : BookCheck → Type 0
  BookOnly (Ok n) = Unit {0}
  BookOnly (Err r) = Only r.refusal

  judged-only : (i : ℕ) (rest : BookCheck) → BookOnly rest → (f : Finding) → Onlys f → BookOnly (judge (λ r. refused_at r i) rest f)
  judged-only i rest p (Ok _) h = p
  judged-only i rest p (Err r) h = h r refl

  scan-only : (accepted : BookCheck) → BookOnly accepted → (find : ℕ → Finding) → ((i : ℕ) → Onlys (find i)) → (i n : ℕ) → BookOnly (scan refused_at accepted find i n)
  unfolding scan
  scan-only accepted p find h i zero = p
  scan-only accepted p find h i (suc n) = judged-only i _ (scan-only accepted p find h (suc i) n) (find i) (h i)

  book-only : (s : List ℕ) → (8192 < records s → B) → BookOnly (book_check s)
  unfolding check_by
  book-only s m =
      judged-only 0 _ (scan-only _ tt (record_finding Current s) (record-only s) 0 (records s)) _
      (row-only (ragged s) BookLength _ (λ _ n. absurd (omega arith)) (row-only (more_than 8192 s) TooManyRecords _ (λ e _. m (ltb-true 8192 (records s) e)) fit-only))

  abbrev OutcomeOnly : Outcome → Type 0
  OutcomeOnly (Ok n) = Unit {0}
  OutcomeOnly (Err r) = Only r.refusal

  runs-only : (b : Bool) (i n v h : ℕ) → OutcomeOnly (elim b as (λ _. Outcome) [ true ↦ refused_at Contradiction i | false ↦ accepted_with n v h ])
  runs-only true i n v h = λ e. absurd (omega arith)
  runs-only false i n v h = tt

  by_only : (s : List ℕ) (k : BookCheck) → BookOnly k → OutcomeOnly (by_book s [] k)
  unfolding by_book by_claims by_runs claims_check scan
  by_only s (Err r) p = p
  by_only s (Ok n) p = runs-only (leb (shortest_clash (marked s) n (entries s)) (records s)) (shortest_clash (marked s) n (entries s) - 1) n (length (book_visits n (pairs_of s))) (length (on.shadows (book_visits n (pairs_of s))))

  if-only : (b : Bool) (x : Refusal) (o : Outcome) → (b ≡ true → Only x) → (b ≡ false → OutcomeOnly o) → OutcomeOnly (refuse_if b x o)
  unfolding refuse_if
  if-only true x o h p = h refl
  if-only false x o h p = p refl

-- the run with the addition has more than 8,192 records only where 8,192 stand
over : (area a : List ℕ) (k : ℕ) → length a ≡ 6 → 8192 < records (extended area k a) → 8192 ≤ k
unfolding extended standing
over area a k e l = omega (arith, e, l, length-append (take (6 * k) area) a, length-take (6 * k) area)

run_only : (area a : List ℕ) (k : ℕ) → length a ≡ 6 → OutcomeOnly (8192 ≤ k) (fresh_call (extended area k a) [])
unfolding fresh_call
run_only area a k e = by_only (8192 ≤ k) (extended area k a) (book_check (extended area k a)) (book-only (8192 ≤ k) (extended area k a) (over area a k e))

only : (area a : List ℕ) (k : ℕ) → OutcomeOnly (8192 ≤ k) (add_outcome area k a)
unfolding add_outcome by_area
only area a k =
    if-only (8192 ≤ k) (ltb (length area) 49152) ShortBuffer _ (λ _ n. absurd (omega arith)) (λ _.
    if-only (8192 ≤ k) (ltb 8192 k) TooManyRecords _ (λ e _. omega (arith, ltb-true 8192 k e)) (λ _.
    if-only (8192 ≤ k) (not (eqb (length a) 6)) BookLength _ (λ _ n. absurd (omega arith)) (λ e. run_only area a k (eqb-true (length a) 6 (not-false (eqb (length a) 6) e)))))

pub four-only : FourOnly
four-only area a k i e = subst (OutcomeOnly (8192 ≤ k)) e (only area a k) refl
