-- How a claim is read. Assumes nothing.
use Rattle.std.specs.Prelude.{None, Ok, Some}
use Rattle.records.specs.Refused.{Finding, refused_at}
use Prim.Native.Nat.{ℕ, ◌+◌, ◌-◌, ◌%◌, ◌≤◌, ◌<◌}
use mathlib.Core.Path.{◌≡◌, sym, ◌∙◌}
use mathlib.Core.Bool.{Bool, true, false, not}
use mathlib.Core.List.{List}
use borrow.Author.Tests.{eq-eqb, ne_eqb, lt-ltb, le-ltb, le-leb, lt-leb}
use native.Mathlib.Nat.{sub-zero}
use lib.ListN.{length}
use Rattle.lists.proofs.Bools.{right_or}
use Rattle.records.specs.declared.Record.{Record}
use Rattle.records.specs.declared.Refusal.TheVariants.{ClaimsLength, TooManyClaims, ClaimFormat, ClaimPiece}
use Rattle.records.specs.Refusal.{scan}
use Rattle.records.specs.Record.{record_at, records}
use Rattle.records.specs.Pieces.{stated, largest}
use Rattle.records.specs.Rows.{claim_row}
use Rattle.records.specs.Check.{claim_at, read, claim_finding, claims_check}
use Rattle.records.proofs.Scans.{scan-end, scan-pass, scan-stop}

module _ (s : List ℕ) (i : ℕ) {r : Record} (at : r ≡ record_at s i) where
  as_read : (t : Bool) → claim_row r ≡ t → read t r ≡ claim_at s i
  unfolding claim_at
  as_read t e = rw (← at, e)

  pub unstated : stated r ≡ false → None ≡ claim_at s i
  unstated e = as_read true (rw e)

  pub unknown : 1 < r.origin → None ≡ claim_at s i
  unknown n = as_read true (right_or (not (stated r)) (lt-ltb 1 r.origin n))

  pub read_whole : stated r ≡ true → r.origin ≤ 1 → Some r ≡ claim_at s i
  read_whole e t = as_read false (rw (e, le-ltb 1 r.origin t))

-- Rows 10 and 11, and the claims one by one.
module _ (pieces : ℕ) (s : List ℕ) where
  abbrev find : ℕ → Finding
  find i = claim_finding pieces (claim_at s i)

  pub uneven-claims : (length s % 6 ≡ 0 → ⊥) → refused_at ClaimsLength 0 ≡ claims_check pieces s
  unfolding claims_check
  uneven-claims r = simp (ne_eqb (length s % 6) 0 r)

  module _ (whole : length s % 6 ≡ 0) where
    pub too-many-claims : 4096 < records s → refused_at TooManyClaims 0 ≡ claims_check pieces s
    unfolding claims_check
    too-many-claims m = simp (eq-eqb (length s % 6) 0 whole, lt-ltb 4096 (records s) m)

    pub first-claim : records s ≤ 4096 → scan refused_at (Ok tt) find 0 (records s - 0) ≡ claims_check pieces s
    unfolding claims_check
    first-claim m = simp (sub-zero (records s), eq-eqb (length s % 6) 0 whole, le-ltb 4096 (records s) m)

  -- what is left at claim i is all of it
  abbrev pub ClaimsLeft : ℕ → Type 0
  ClaimsLeft i = scan refused_at (Ok tt) find i (records s - i) ≡ claims_check pieces s

  module _ (i : ℕ) (left : ClaimsLeft i) where
    pub accepts-claims : records s ≤ i → (Ok tt) ≡ claims_check pieces s
    accepts-claims h = sym (scan-end refused_at (Ok tt) find i (records s) h) ∙ left

    pub refuses-form : i < records s → None ≡ claim_at s i → refused_at ClaimFormat i ≡ claims_check pieces s
    refuses-form h e = sym (scan-stop refused_at (Ok tt) find i (records s) ClaimFormat h (rw (← e))) ∙ left

    pub refuses-piece : i < records s → {r : Record} → Some r ≡ claim_at s i → pieces ≤ largest r → refused_at ClaimPiece i ≡ claims_check pieces s
    refuses-piece h {r} e l = sym (scan-stop refused_at (Ok tt) find i (records s) ClaimPiece h (rw (← e, le-leb pieces (largest r) l))) ∙ left

    pub next-claim : i < records s → {r : Record} → Some r ≡ claim_at s i → largest r < pieces → ClaimsLeft (i + 1)
    next-claim h {r} e l = sym (scan-pass refused_at (Ok tt) find i (records s) h (rw (← e, lt-leb pieces (largest r) l))) ∙ left
