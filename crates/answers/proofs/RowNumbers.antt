-- A call has the number and the place of the check that refuses. Assumes nothing.
use Rattle.std.specs.Prelude.{Err, Ok}
use Rattle.records.specs.Refused.{BookCheck, ClaimsCheck, refused_at}
use Rattle.outcomes.specs.Accepted.{Outcome, accepted_with}
use Prim.Native.Nat.{ℕ, ◌-◌, ◌<◌}
use mathlib.Core.Path.{◌≡◌, refl}
use mathlib.Core.Bool.{Bool, true, false}
use mathlib.Core.List.{List}
use native.Mathlib.Omega.{arith}
use lib.Dec.{leb}
use lib.ListN.{length}
use Rattle.rules.specs.Entries.{shortest_clash}
use Rattle.records.specs.Record.{records}
use Rattle.records.specs.Check.{book_check, claims_check}
use Rattle.records.specs.Facts.{entries}
use Rattle.records.specs.Marked.{marked}
use Rattle.records.specs.declared.Refusal.TheVariants.{Contradiction}
use Rattle.records.proofs.Rows.{refused-positive}
use Rattle.records.specs.CheckNumbers.{book_number, book_place, book_pieces, claims_number, claims_place}
use Rattle.index.specs.Parts as on
use Rattle.groups.specs.Index.{book_visits}
use Rattle.outcomes.specs.Call.{pairs_of, by_runs, by_claims, by_book}
use Rattle.outcomes.specs.Outcome.{number, place}
use Rattle.outcomes.specs.Fresh.{fresh_call}
use Rattle.answers.specs.RowNumbers.{RowsNumbered}
use Rattle.answers.proofs.Fresh.{fresh-is}

-- row 14 accepts or gives 14
by-test : (b : Bool) (i n v h : ℕ) → (number (elim b as (λ _. Outcome) [ true ↦ refused_at Contradiction i | false ↦ accepted_with n v h ]) ≡ 0 → ⊥)
    → number (elim b as (λ _. Outcome) [ true ↦ refused_at Contradiction i | false ↦ accepted_with n v h ]) ≡ 14
by-test true i n v h z = refl
by-test false i n v h z = absurd (z refl)

module _ (s cs : List ℕ) where
  by-runs : (n : ℕ) → (number (by_runs s n) ≡ 0 → ⊥) → number (by_runs s n) ≡ 14
  unfolding by_runs
  by-runs n z =
      by-test (leb (shortest_clash (marked s) n (entries s)) (records s)) (shortest_clash (marked s) n (entries s) - 1) n
      (length (book_visits n (pairs_of s))) (length (on.shadows (book_visits n (pairs_of s)))) z

  by-claims : (n : ℕ) (c : ClaimsCheck) → 0 < claims_number c → (number (by_claims s n c) ≡ claims_number c) × (place (by_claims s n c) ≡ claims_place c)
  unfolding by_claims
  by-claims n (Ok _) z = absurd (omega arith)
  by-claims n (Err r) z = (refl, refl)

  past-claims : (n : ℕ) (c : ClaimsCheck) → claims_number c ≡ 0 → (number (by_claims s n c) ≡ 0 → ⊥) → number (by_claims s n c) ≡ 14
  unfolding by_claims
  past-claims n (Ok _) e z = by-runs n z
  past-claims n (Err r) e z = absurd (refused-positive r.refusal e)

  by-book : (b : BookCheck) → 0 < book_number b → (number (by_book s cs b) ≡ book_number b) × (place (by_book s cs b) ≡ book_place b)
  unfolding by_book
  by-book (Ok n) z = absurd (omega arith)
  by-book (Err r) z = (refl, refl)

  past-book :
      (b : BookCheck) → book_number b ≡ 0 → 0 < claims_number (claims_check (book_pieces b) cs)
      → (number (by_book s cs b) ≡ claims_number (claims_check (book_pieces b) cs)) × (place (by_book s cs b) ≡ claims_place (claims_check (book_pieces b) cs))
  unfolding by_book
  past-book (Ok n) e z = by-claims n (claims_check n cs) z
  past-book (Err r) e z = absurd (refused-positive r.refusal e)

  past-both :
      (b : BookCheck) → book_number b ≡ 0 → claims_number (claims_check (book_pieces b) cs) ≡ 0 → (number (by_book s cs b) ≡ 0 → ⊥) → number (by_book s cs b) ≡ 14
  unfolding by_book
  past-both (Ok n) e q z = past-claims n (claims_check n cs) q z
  past-both (Err r) e q z = absurd (refused-positive r.refusal e)

pub rows-numbered : RowsNumbered
unfolding fresh_call
rows-numbered s cs l long =
    let e = fresh-is s cs l long in
    record {
      book = λ z. rw e (by-book s cs (book_check s) z);
      claims = λ q z. rw e (past-book s cs (book_check s) q z);
      last = λ p q z. rw e (past-both s cs (book_check s) p q (rw e at z));
    }
