-- The list of an accepted catalog has exactly what is derived, and what every model keeps. Assumes nothing.
use Rattle.std.specs.Prelude.{Err, Ok}
use Rattle.records.specs.Refused.{BookCheck}
use Rattle.catalog.specs.Listing.{Listing}
use Prim.Native.Nat.{ℕ, ◌<◌}
use mathlib.Core.Path.{◌≡◌, refl, subst}
use mathlib.Core.Bool.{Bool, true, false}
use mathlib.Core.List.{List, Memᴰ}
use native.Mathlib.Omega.{arith}
use borrow.Author.Tests.{leb-false}
use lib.Dec.{leb}
use Rattle.lists.proofs.Bools.{Known, is_true, is_false, known, not-is-false}
use Rattle.lists.proofs.Members.{at-member, member-at}
use Rattle.rules.specs.Fact.{fact_of}
use Rattle.rules.specs.Follows.{follows, clash}
use Rattle.rules.specs.Entries.{shortest_clash}
use Rattle.rules.proofs.Decides.{follows-iff}
use Rattle.rules.proofs.Models.{follows-everywhere}
use Rattle.records.specs.Record.{records}
use Rattle.records.specs.Facts.{entries, facts}
use Rattle.records.specs.Marked.{marked}
use Rattle.records.specs.Check.{book_check}
use Rattle.records.specs.declared.Refusal.{Refusal}
use Rattle.records.proofs.Rows.{refused-positive}
use Rattle.records.proofs.Accepted.{accepted}
use Rattle.contradiction.proofs.SettlingLaws.{settleable, whole-unmarked, beyond-free, free-consistent}
use Rattle.outcomes.specs.Call as answers
use Rattle.catalog.specs.Lent.{Lent}
use Rattle.catalog.specs.Outcome.{number}
use Rattle.catalog.specs.Call.{list_of, refuse_if, by_index, by_asked, by_book, outcome}
use Rattle.catalog.specs.Certain.{Certain, AllCertain}
use Rattle.catalog.specs.Filling.{Asked}
use Rattle.catalog.proofs.Calls.{asked_by}
use Rattle.catalog.proofs.Telling.{claim-within}
use Rattle.lists.proofs.Passed.{passing-at, passing-back, passing-less, passing-rises}

-- a row that does not refuse
passes : (b : Bool) (r : Refusal) (below : Listing) → number (refuse_if b r below) ≡ 0 → (b ≡ false) × (number below ≡ 0)
unfolding refuse_if
passes true r below e = absurd (refused-positive r e)
passes false r below e = (refl, e)

-- what acceptance says of the rows
record Sound (s : List ℕ) (k g n : ℕ) : Type 0 where
  sound : book_check s ≡ Ok n
  asked : Asked n k g
  free : false ≡ clash (marked s) n (facts s)

module _ (s : List ℕ) (k g : ℕ) where
  runs : (n : ℕ) → book_check s ≡ Ok n → number (by_index s k g (answers.by_runs s n)) ≡ 0 → false ≡ clash (marked s) n (facts s)
  unfolding answers.by_runs by_index
  runs n sound e = pick (known (leb (shortest_clash (marked s) n (entries s)) (records s)))
    where
      pick : Known (leb (shortest_clash (marked s) n (entries s)) (records s)) → false ≡ clash (marked s) n (facts s)
      pick (is_true h) = absurd (omega (arith, rw (h, answers.by_runs, by_index, number) at e))
      pick (is_false h) = beyond-free s (settleable s n sound).bounded (marked s) (whole-unmarked s n sound) (leb-false _ _ h)

  books : (b : BookCheck) → book_check s ≡ b → number (by_book s k g b) ≡ 0 → (n : ℕ) × Sound s k g n
  unfolding by_book by_asked
  books (Err r) q e = absurd (refused-positive r.refusal e)
  books (Ok n) q e =
      let a = passes _ _ _ e in
      let c = passes _ _ _ a.1 in
      (n, record { sound = q; asked = asked_by k g n (not-is-false _ a.0) c.0; free = runs n q c.1 })

  rows : (l : Lent) → number (outcome s k g l) ≡ 0 → (n : ℕ) × Sound s k g n
  unfolding outcome
  rows l e = books (book_check s) refl (passes _ _ _ (passes _ _ _ e).1).1

  module _ (n : ℕ) (P : Sound s k g n) where
    abbrev T : ℕ → Bool
    T x = follows (marked s) n (facts s) (fact_of k x g)

    member-true : (x : ℕ) → Memᴰ x (list_of s n k g) → (T x ≡ true) × (x < n)
    unfolding list_of
    member-true x m =
        let i = member-at 0 m in
        subst (λ (y : ℕ). (T y ≡ true) × (y < n)) i.2 (passing-at T n i.0 i.1)

    true-member : (x : ℕ) → x < n → T x ≡ true → Memᴰ x (list_of s n k g)
    unfolding list_of
    true-member x l t =
        subst (λ (y : ℕ). Memᴰ y (list_of s n k g)) (passing-back T x n l t) (at-member (list_of s n k g) 0 _ (passing-less T x n l t))

    list-certain : Certain (marked s) n (facts s) k g (list_of s n k g)
    unfolding list_of
    list-certain =
        let S = settleable s n P.sound in
        let w = S.bounded.within in
        let p = S.bounded.some in
        let z = whole-unmarked s n P.sound in
        let ok = free-consistent s S.bounded (marked s) z P.free in
        record {
          rising = λ i j h l. passing-rises T n i j h l;
          below = λ x m. (member-true x m).1;
          derived = λ x l. let d = follows-iff (marked s) n (facts s) w p (fact_of k x g) (claim-within n k g x P.asked.piece l) in
              (λ m. d.0 (member-true x m).0, λ y. true-member x l (d.1 y));
          entailed = λ x l. let d = follows-iff (marked s) n (facts s) w p (fact_of k x g) (claim-within n k g x P.asked.piece l) in
              let v = follows-everywhere (marked s) n (facts s) w p z ok (fact_of k x g) (claim-within n k g x P.asked.piece l) in
              (λ m. v.0 (d.0 (member-true x m).0), λ y. true-member x l (d.1 (v.1 y)));
        }

pub all-certain : AllCertain
all-certain s k g l e =
    let P = rows s k g l e in
    subst (λ (n : ℕ). Certain (marked s) n (facts s) k g (list_of s n k g)) (accepted s P.0 P.1.sound).count (list-certain s k g P.0 P.1)
