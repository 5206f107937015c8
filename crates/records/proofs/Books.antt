-- The check of a book's records, record by record. Assumes nothing.
use Rattle.std.specs.Prelude.{Err, Ok}
use Rattle.records.specs.Refused.{refused_at}
use Prim.Native.Nat.{ℕ, max, ◌+◌, ◌*◌, ◌-◌, ◌%◌, ◌≤◌, ◌<◌}
use mathlib.Core.Path.{◌≡◌, refl, sym, ap, ◌∙◌}
use mathlib.Core.Bool.{true, false}
use mathlib.Core.List.{List}
use native.Mathlib.Nat.{sub-zero, le_antisymm}
use native.Mathlib.Numerals.{add-one}
use borrow.Author.Tests.{eq-eqb, ne_eqb, lt-ltb, le-ltb}
use native.Mathlib.Omega.{arith}
use lib.ListN.{length, get_or}
use Rattle.lists.proofs.Bools.{Known, is_true, is_false, known}
use Rattle.records.specs.declared.Refusal.{Refusal}
use Rattle.records.specs.declared.Edition.{Edition}
use Rattle.records.specs.declared.Refusal.TheVariants.{BookLength, TooManyRecords, Repeat}
use Rattle.records.specs.Record.{record_at, records}
use Rattle.records.specs.Refusal.{scan}
use Rattle.records.specs.Pieces.{stated, largest, pieces_up_to}
use Rattle.records.specs.Rows.{repeat_row}
use Rattle.records.specs.Check.{form_finding, record_finding, records_check, check_by}
use Rattle.records.proofs.Rows.{both-largest, plain-largest}
use Rattle.records.proofs.Scans.{scan-end, scan-pass, scan-stop}

pub pieces_none : (s : List ℕ) → 1 ≡ pieces_up_to s 0
unfolding pieces_up_to
pieces_none s = refl

pub pieces_more : (s : List ℕ) (i : ℕ) → pieces_up_to s (i + 1) ≡ max (pieces_up_to s i) (largest (record_at s i) + 1)
unfolding pieces_up_to
pieces_more s i = rw (add-one i, add-one (largest (record_at s i)))

-- a record of bytes names 16-bit numbers
pub named_small : (s : List ℕ) (i : ℕ) → ((k : ℕ) → get_or s k 0 < 256) → largest (record_at s i) < 65536
unfolding record_at
named_small s i h = pick (known (stated (record_at s i)))
  where
    pick : Known (stated (record_at s i)) → largest (record_at s i) < 65536
    pick (is_true t) = omega (arith, both-largest (record_at s i) t, h (6 * i + 2), h (6 * i + 3), h (6 * i + 4), h (6 * i + 5))
    pick (is_false t) = omega (arith, plain-largest (record_at s i) t, h (6 * i + 2), h (6 * i + 3))

module _ (e : Edition) (s : List ℕ) (i : ℕ) where
  pub form-unfit : (x : Refusal) → form_finding e (record_at s i) ≡ Err x → record_finding e s i ≡ Err x
  unfolding record_finding
  form-unfit x q = rw q

  pub form-repeats : form_finding e (record_at s i) ≡ Ok tt → repeat_row s i ≡ true → record_finding e s i ≡ Err Repeat
  unfolding record_finding
  form-repeats q t = rw (q, t)

  pub form-new : form_finding e (record_at s i) ≡ Ok tt → repeat_row s i ≡ false → record_finding e s i ≡ Ok tt
  unfolding record_finding
  form-new q t = rw (q, t)

-- What is left of the scan at record i is all of it.
module _ (e : Edition) (s : List ℕ) (n : ℕ) where
  abbrev pub Left : ℕ → Type 0
  Left i = scan refused_at (Ok (pieces_up_to s n)) (record_finding e s) i (n - i) ≡ records_check e s n

  pub at_first : Left 0
  at_first = rw (sub-zero n)

  module _ (i : ℕ) (left : Left i) where
    pub accepts : n ≤ i → i ≤ n → {p : ℕ} → p ≡ pieces_up_to s i → Ok p ≡ records_check e s n
    accepts h k q = ap Ok (q ∙ ap (pieces_up_to s) (le_antisymm k h)) ∙ sym (scan-end refused_at (Ok (pieces_up_to s n)) (record_finding e s) i n h) ∙ left

    pub refuses : i < n → {x : Refusal} → record_finding e s i ≡ Err x → refused_at x i ≡ records_check e s n
    refuses h {x} q = sym (scan-stop refused_at (Ok (pieces_up_to s n)) (record_finding e s) i n x h q) ∙ left

    pub goes_on : i < n → record_finding e s i ≡ Ok tt → Left (i + 1)
    goes_on h q = sym (scan-pass refused_at (Ok (pieces_up_to s n)) (record_finding e s) i n h q) ∙ left

-- Rows 3 and 4, and a book that passes them.
module _ (e : Edition) (s : List ℕ) where
  pub uneven : (length s % 6 ≡ 0 → ⊥) → refused_at BookLength 0 ≡ check_by e s
  unfolding check_by
  uneven r = simp (ne_eqb (length s % 6) 0 r)

  module _ (whole : length s % 6 ≡ 0) where
    pub too_long : 8192 < records s → refused_at TooManyRecords 0 ≡ check_by e s
    unfolding check_by
    too_long m = simp (eq-eqb (length s % 6) 0 whole, lt-ltb 8192 (records s) m)

    pub measured : records s ≤ 8192 → records_check e s (records s) ≡ check_by e s
    unfolding check_by
    measured m = simp (eq-eqb (length s % 6) 0 whole, le-ltb 8192 (records s) m)
