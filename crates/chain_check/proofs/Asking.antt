-- What the rows tell of a book and its one claim. Assumes nothing.
use Rattle.std.specs.Prelude.{Err, Ok}
use Rattle.records.specs.Refused.{BookCheck, ClaimsCheck, refused_at}
use Rattle.outcomes.specs.Accepted.{Outcome, accepted_with}
use Prim.Native.Nat.{ℕ}
use mathlib.Core.Path.{◌≡◌, refl, sym, ap, ◌∙◌}
use mathlib.Core.Bool.{false}
use mathlib.Core.List.{List, []}
use native.Mathlib.Omega.{arith}
use lib.Dec.{eqb, leb}
use lib.ListN.{length}
use borrow.Author.Tests.{eq-eqb, ne_eqb, eqb-true, leb-false}
use Rattle.lists.proofs.Bools.{Known, is_true, is_false, known}
use Rattle.rules.specs.Derives.{Contradictory}
use Rattle.rules.specs.Follows.{clash}
use Rattle.rules.specs.Entries.{shortest_clash}
use Rattle.records.specs.Record.{record_at, records}
use Rattle.records.specs.Facts.{saying, entries, facts}
use Rattle.records.specs.Marked.{marked}
use Rattle.records.specs.Check.{book_check, claims_check}
use Rattle.records.specs.declared.Refusal.{Refusal}
use Rattle.records.specs.declared.Refusal.TheVariants.{ClaimsLength}
use Rattle.contradiction.proofs.SettlingLaws.{settleable, whole-unmarked, beyond-free, free-consistent}
use Rattle.outcomes.specs.Call.{by_runs, by_claims}
use Rattle.outcomes.specs.Fresh.{fresh_call}
use Rattle.outcomes.specs.One.{refuse_if, by_one}
use Rattle.answers.proofs.Fresh.{fresh-runs}
use Rattle.chain_format.specs.Citing.{citing}
use Rattle.chain_format.specs.Chain.{chain_ok}
use Rattle.chain_check.specs.Call.{asked, passing, passes}

-- ---- down the rows

module _ (s cs c : List ℕ) where
  pub asked-refused : (r : Refusal) (i : ℕ) → refused_at r i ≡ book_check s → refused_at r i ≡ asked s cs
  unfolding asked by_one refuse_if
  asked-refused r i e = rw (sym e)

  module _ (n : ℕ) (sound : book_check s ≡ Ok n) where
    pub asked-misfit : (length cs ≡ 6 → ⊥) → refused_at ClaimsLength 0 ≡ asked s cs
    unfolding asked by_one refuse_if
    asked-misfit l = rw (sound, ne_eqb (length cs) 6 l, refuse_if)

    module _ (six : length cs ≡ 6) where
      pub asked-one : by_claims s n (claims_check n cs) ≡ asked s cs
      unfolding asked by_one refuse_if
      asked-one = rw (sound, eq-eqb (length cs) 6 six, refuse_if)

      pub asked-claim : (r : Refusal) (i : ℕ) → refused_at r i ≡ claims_check n cs → refused_at r i ≡ asked s cs
      unfolding by_claims
      asked-claim r i e = ap (by_claims s n) e ∙ asked-one

      pub asked-runs : (Ok tt) ≡ claims_check n cs → by_runs s n ≡ asked s cs
      unfolding by_claims
      asked-runs e = ap (by_claims s n) e ∙ asked-one

-- ---- up from an acceptance

pub record Passed (s cs : List ℕ) (n nodes shadows : ℕ) : Type 0 where
  pub sound : book_check s ≡ Ok n
  pub six : length cs ≡ 6
  pub fit : claims_check n cs ≡ Ok tt
  pub runs : by_runs s n ≡ accepted_with n nodes shadows

abbrev Ran : List ℕ → ℕ → Outcome → Type 0
Ran s n (Ok m) = n ≡ m.pieces
Ran s n (Err r) = Unit {0}

ran : (s : List ℕ) (n : ℕ) → Ran s n (by_runs s n)
unfolding by_runs
ran s n = pick (known (leb (shortest_clash (marked s) n (entries s)) (records s)))
  where
    pick : Known (leb (shortest_clash (marked s) n (entries s)) (records s)) → Ran s n (by_runs s n)
    pick (is_true e) = rw (e, by_runs) tt
    pick (is_false e) = rw (e, by_runs) refl

module _ (s cs : List ℕ) (m v h : ℕ) where
  abbrev Is : Outcome → Type 0
  Is o = o ≡ accepted_with m v h

  refused-not : (r : Refusal) (i : ℕ) → Is (refused_at r i) → ⊥
  refused-not r i e = let z : ◌≡◌ {A = ℕ} 0 1 = cc in omega arith

  by-claims : (n : ℕ) → book_check s ≡ Ok n → length cs ≡ 6 → (c : ClaimsCheck) → claims_check n cs ≡ c → Is (by_claims s n c) → Passed s cs m v h
  unfolding by_claims
  by-claims n b l (Err r) c e = absurd (refused-not r.refusal r.place e)
  by-claims n b l (Ok _) c e =
      let q : n ≡ m = (rw e at (ran s n)) in
      record { sound = b ∙ ap Ok q; six = l; fit = ap (λ (k : ℕ). claims_check k cs) (sym q) ∙ c; runs = ap (by_runs s) (sym q) ∙ e }

  by-one : (b : BookCheck) → book_check s ≡ b → Is (by_one s cs b) → Passed s cs m v h
  unfolding by_one refuse_if
  by-one (Err r) b e = absurd (refused-not r.refusal r.place e)
  by-one (Ok n) b e = pick (known (eqb (length cs) 6))
    where
      pick : Known (eqb (length cs) 6) → Passed s cs m v h
      pick (is_true l) = by-claims n b (eqb-true _ _ l) (claims_check n cs) refl (rw (l, refuse_if) at e)
      pick (is_false l) = absurd (refused-not ClaimsLength 0 (rw (l, refuse_if) at e))

  pub asked-passed : asked s cs ≡ accepted_with m v h → Passed s cs m v h
  unfolding asked
  asked-passed e = by-one (book_check s) refl e

-- ---- row 14

module _ (s : List ℕ) (n nodes shadows : ℕ) (sound : book_check s ≡ Ok n) (runs : by_runs s n ≡ accepted_with n nodes shadows) where
  beyond : leb (shortest_clash (marked s) n (entries s)) (records s) ≡ false
  unfolding by_runs
  beyond = pick (known (leb (shortest_clash (marked s) n (entries s)) (records s)))
    where
      pick : Known (leb (shortest_clash (marked s) n (entries s)) (records s)) → leb (shortest_clash (marked s) n (entries s)) (records s) ≡ false
      pick (is_true e) = absurd (let q = (rw (e, by_runs) at runs) in let z : ◌≡◌ {A = ℕ} 0 1 = cc in omega arith)
      pick (is_false e) = e

  pub runs-free : false ≡ clash (marked s) n (facts s)
  runs-free = beyond-free s (settleable s n sound).bounded (marked s) (whole-unmarked s n sound) (leb-false _ _ beyond)

  pub runs-consistent : Contradictory (marked s) n (facts s) → ⊥
  runs-consistent = free-consistent s (settleable s n sound).bounded (marked s) (whole-unmarked s n sound) runs-free

-- ---- what the check comes to, by the row at which it ends

module _ (s cs c : List ℕ) where
  pub passes-misfit : (length cs ≡ 6 → ⊥) → false ≡ passes s cs c
  unfolding passes asked passing by_one refuse_if
  passes-misfit l = by-book (book_check s)
    where
      by-book : (b : BookCheck) → false ≡ passing s cs c (by_one s cs b)
      by-book (Err r) = refl
      by-book (Ok n) = rw (ne_eqb (length cs) 6 l, refuse_if)

  pub passes-refused : (r : Refusal) (i : ℕ) → fresh_call s [] ≡ refused_at r i → false ≡ passes s cs c
  unfolding passes asked passing by_one by_claims refuse_if
  passes-refused r i e = by-book (book_check s) refl
    where
      by-claims : (n : ℕ) → by_runs s n ≡ refused_at r i → (k : ClaimsCheck) → false ≡ passing s cs c (by_claims s n k)
      by-claims n q (Err r) = refl
      by-claims n q (Ok _) = rw q

      six : (n : ℕ) → by_runs s n ≡ refused_at r i → Known (eqb (length cs) 6) → false ≡ passing s cs c (by_one s cs (Ok n))
      six n q (is_true l) = rw (l, refuse_if) (by-claims n q (claims_check n cs))
      six n q (is_false l) = rw (l, refuse_if)

      by-book : (b : BookCheck) → book_check s ≡ b → false ≡ passing s cs c (by_one s cs b)
      by-book (Err r) q = refl
      by-book (Ok n) q = six n (sym (fresh-runs s n q) ∙ e) (known (eqb (length cs) 6))

  module _ (n : ℕ) (sound : book_check s ≡ Ok n) (l : length cs ≡ 6) where
    pub passes-claim : (r : Refusal) (i : ℕ) → claims_check n cs ≡ refused_at r i → false ≡ passes s cs c
    unfolding passes passing
    passes-claim r i e = ap (passing s cs c) (asked-claim s cs c n sound l r i (sym e))

    pub passes-chain :
        claims_check n cs ≡ Ok tt → (nodes shadows : ℕ) → by_runs s n ≡ accepted_with n nodes shadows
        → chain_ok n (citing (record_at cs 0) s) (saying (record_at cs 0)) c ≡ passes s cs c
    unfolding passes passing
    passes-chain e nodes shadows q = ap (passing s cs c) (sym q ∙ asked-runs s cs c n sound l (sym e))
