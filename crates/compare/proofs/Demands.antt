-- A determined comparison keeps demands 2 and 3 of both books, and its joint answer is that of a model of both. Assumes nothing.
use Rattle.std.specs.Prelude.{Err, Ok}
use Rattle.records.specs.Refused.{ClaimsCheck}
use Rattle.outcomes.specs.Accepted.{Outcome, accepted_with}
use Rattle.compare.specs.Refused.{Comparison}
use Prim.Native.Nat.{ℕ, max, ◌+◌, ◌*◌, ◌<◌, ◌≤◌}
use mathlib.Core.Path.{◌≡◌, refl, sym, ap, ap₂, subst, ◌∙◌}
use mathlib.Core.Logic.{◌↔◌}
use mathlib.Core.Bool.{Bool, true, false, false≢true}
use mathlib.Core.List.{List, [], ◌∷◌}
use native.Mathlib.Omega.{arith}
use native.Mathlib.Nat.{add-zero}
use lib.Dec.{leb, ltb}
use lib.ListN.{length, get_or, get_or-append}
use Rattle.lists.specs.Front.{front}
use Rattle.lists.specs.Tally.{num}
use Rattle.lists.proofs.Bools.{Known, is_true, is_false, known}
use Rattle.rules.specs.Model.{Model, keeps_all}
use Rattle.rules.specs.Follows.{clash}
use Rattle.rules.specs.Entries.{shortest_clash}
use Rattle.rules.proofs.Runs.{whole_same}
use Rattle.rules.proofs.Verdicts.{iff-trans}
use Rattle.records.specs.Record.{records}
use Rattle.records.specs.Facts.{entries, facts}
use Rattle.records.specs.Marked.{marked}
use Rattle.records.specs.Check.{book_check, claims_check}
use Rattle.records.proofs.Rows.{refused-positive}
use Rattle.compare.specs.Joint.{pieces, consistent, either_marked}
use Rattle.compare.specs.Agreement.{agreement}
use Rattle.compare.proofs.JointJoining.{joint-pieces}
use Rattle.compare.proofs.Threes.{threes-length, threes-at}
use Rattle.contradiction.proofs.SettlingLaws.{free-consistent}
use Rattle.outcomes.specs.Call.{by_runs}
use Rattle.outcomes.specs.Fresh.{fresh_call}
use Rattle.closure.specs.Counted.{Counted}
use Rattle.outcomes.specs.Outcome as of
use Rattle.answers.proofs.Fresh.{fresh-sound, fresh-runs}
use Rattle.claims.proofs.Counts.{own-count, counted-settleable, counted-unmarked, counted-free}
use Rattle.outcomes.proofs.Counting.{runs-refused, derived, entailed}
use Rattle.compare.specs.Answers.{answer_of, bytes_of}
use Rattle.compare.specs.Call.{by_book, by_claims, by_rows, outcome, left, Determined}
use Rattle.compare.specs.Outcome.{number, together}
use Rattle.compare.specs.Outcome as numbers
use Rattle.compare.specs.Demands.{Right, Answered, NoModel, Demanded}
use Rattle.compare.proofs.Joining.{laid-iff}
use Rattle.compare.proofs.Rows.{runs-clash, runs-free, behind, first_counted, second-counted, roomy}

-- ---- a book that is accepted is free, whatever count it is judged with

module _ (s : List ℕ) where
  not-clashed : (n v h : ℕ) → by_runs s n ≡ accepted_with n v h → leb (shortest_clash (marked s) n (entries s)) (records s) ≡ false
  not-clashed n v h e = pick (known (leb (shortest_clash (marked s) n (entries s)) (records s)))
    where
      pick : Known (leb (shortest_clash (marked s) n (entries s)) (records s)) → leb (shortest_clash (marked s) n (entries s)) (records s) ≡ false
      pick (is_false t) = t
      pick (is_true t) = let q = sym (runs-clash s n t) ∙ e in let z : ◌≡◌ {A = ℕ} 0 1 = cc in absurd (omega arith)

  pub still-free : {a v h n : ℕ} → fresh_call s [] ≡ accepted_with a v h → a ≤ n → false ≡ clash (marked s) n (facts s)
  still-free {a} {v} {h} {n} e l =
      let sound = fresh-sound s e in
      let C = own-count sound in
      let B = (counted-settleable s C).bounded in
      counted-free s C (not-clashed a v h (sym (fresh-runs s a sound) ∙ e))
      ∙ sym (whole_same (marked s) a n (entries s) B.within B.some (counted-unmarked s C) l)

-- ---- what an accepted comparison tells of the rows

pub record Passed (s t cs : List ℕ) : Type 0 where
  pub a : ℕ
  pub b : ℕ
  pub first : book_check s ≡ Ok a
  pub second : book_check t ≡ Ok b
  pub fit : claims_check (max a b) cs ≡ Ok tt
  pub first-free : false ≡ clash (marked s) (max a b) (facts s)
  pub second-free : false ≡ clash (marked t) (max a b) (facts t)

module _ (s t cs : List ℕ) where
  abbrev pub Told : Comparison → Type 0
  Told (Ok c) = Passed s t cs × (c ≡ consistent s t)
  Told (Err k) = Unit {0}

  claims-told : (a b : ℕ) → ((n : ℕ) → n ≡ max a b → claims_check n cs ≡ Ok tt → Passed s t cs) → pieces s t ≡ max a b → (c : ClaimsCheck) → claims_check (pieces s t) cs ≡ c → Told (by_claims (consistent s t) c)
  unfolding by_claims
  claims-told a b f q (Err r) e = tt
  claims-told a b f q (Ok _) e = (f (pieces s t) q e, refl)

  second-told : (o : Outcome) → fresh_call s [] ≡ o → (u : Outcome) → fresh_call t [] ≡ u → Told (by_book 1 o (by_book 2 u (by_claims (consistent s t) (claims_check (pieces s t) cs))))
  unfolding by_book
  second-told (Err r) e u f = tt
  second-told (Ok a) e (Err r) f = tt
  second-told (Ok a) e (Ok b) f =
      let x = fresh-sound s e in
      let y = fresh-sound t f in
      claims-told a.pieces b.pieces
      (λ n q fit.
      record {
        a = a.pieces;
        b = b.pieces;
        first = x;
        second = y;
        fit = rw q at fit;
        first-free = still-free s e (omega arith);
        second-free = still-free t f (omega arith);
      })
      (sym (joint-pieces s t a.pieces b.pieces x y)) (claims_check (pieces s t) cs) refl

  pub rows_told : Told (by_rows s t cs)
  unfolding by_rows
  rows_told = second-told (fresh_call s []) refl (fresh_call t []) refl

  pub told : (room : ℕ) → Told (outcome s t cs room)
  unfolding outcome
  told room = pick (known (ltb room (3 * records cs)))
    where
      pick : Known (ltb room (3 * records cs)) → Told (outcome s t cs room)
      pick (is_true e) = rw (e, outcome) tt
      pick (is_false e) = rw (e, outcome) rows_told

-- ---- the answers

right : (s : List ℕ) (n : ℕ) (C : Counted s n) (cs : List ℕ) → claims_check n cs ≡ Ok tt → false ≡ clash (marked s) n (facts s) → (i : ℕ) → i < records cs → Right s n cs i (answer_of s n cs i)
unfolding answer_of
right s n C cs fit free i h =
    let ok = free-consistent s (counted-settleable s C).bounded (marked s) (counted-unmarked s C) free in
    record { derived = derived s C cs fit i h ok; entailed = entailed s C cs fit i h ok }

module _ (s t cs : List ℕ) (P : Passed s t cs) where
  same-pieces : max P.a P.b ≡ pieces s t
  same-pieces = joint-pieces s t P.a P.b P.first P.second

  pub first-right : (i : ℕ) → i < records cs → Right s (pieces s t) cs i (answer_of s (pieces s t) cs i)
  first-right i h =
      subst (λ (n : ℕ). Right s n cs i (answer_of s n cs i)) same-pieces
      (right s (max P.a P.b) (first_counted s t cs [] P.first P.second P.fit) cs P.fit P.first-free i h)

  pub second-right : (i : ℕ) → i < records cs → Right t (pieces s t) cs i (answer_of t (pieces s t) cs i)
  second-right i h =
      subst (λ (n : ℕ). Right t n cs i (answer_of t n cs i)) same-pieces
      (right t (max P.a P.b) (second-counted s t cs [] P.first P.second P.fit) cs P.fit P.second-free i h)

  pub joint-models : (consistent s t ≡ true) ↔ ((M : Model (either_marked s t) (pieces s t)) × keeps_all M (facts s) × keeps_all M (facts t))
  joint-models =
      subst (λ (n : ℕ). (consistent s t ≡ true) ↔ ((M : Model (either_marked s t) n) × keeps_all M (facts s) × keeps_all M (facts t))) same-pieces
      (laid-iff s t P.a P.b P.first P.second)

-- byte d of claim i in the output
module _ (s t cs out : List ℕ) (i : ℕ) (h : i < records cs) where
  pub byte_at :
      (d : ℕ) → d < 3
      → get_or (front (bytes_of s t cs) out) (3 * i + d) 0
      ≡ get_or (answer_of s (pieces s t) cs i ∷ answer_of t (pieces s t) cs i ∷ agreement (answer_of s (pieces s t) cs i) (answer_of t (pieces s t) cs i) ∷ []) d 0
  unfolding front bytes_of
  byte_at d l =
      get_or-append (bytes_of s t cs) _ 0 (3 * i + d) (omega (arith, threes-length (answer_of s (pieces s t) cs) (answer_of t (pieces s t) cs) (records cs)))
      ∙ threes-at (answer_of s (pieces s t) cs) (answer_of t (pieces s t) cs) (records cs) i d h l

  pub answered : Passed s t cs → Answered s t cs (front (bytes_of s t cs) out) i
  answered P =
      let x = ap (λ (k : ℕ). get_or (front (bytes_of s t cs) out) k 0) (sym (add-zero (3 * i))) ∙ byte_at 0 (omega arith) in
      let y = byte_at 1 (omega arith) in
      record {
        first = subst (Right s (pieces s t) cs i) (sym x) (first-right s t cs P i h);
        second = subst (Right t (pieces s t) cs i) (sym y) (second-right s t cs P i h);
        third = byte_at 2 (omega arith) ∙ ap₂ agreement (sym x) (sym y);
      }

-- ---- refusal 14

fourteen :
    (k : ℕ) (o : Outcome) (rest : Comparison) → (numbers.book rest ≡ k → ⊥)
    → ((number (by_book k o rest) ≡ 14) × (numbers.book (by_book k o rest) ≡ k)) ↔ (of.number o ≡ 14)
unfolding by_book
fourteen k (Err r) rest other = (λ x. x.0, λ e. (e, refl))
fourteen k (Ok a) rest other = (λ x. absurd (other x.1), λ e. absurd (omega arith))

claims-other : (c : Bool) (x : ClaimsCheck) (k : ℕ) → 0 < k → numbers.book (by_claims c x) ≡ k → ⊥
unfolding by_claims
claims-other c (Err r) k l e = omega arith
claims-other c (Ok _) k l e = omega arith

second-other : (u : Outcome) (rest : Comparison) → (numbers.book rest ≡ 1 → ⊥) → numbers.book (by_book 2 u rest) ≡ 1 → ⊥
unfolding by_book
second-other (Err r) rest other e = omega arith
second-other (Ok a) rest other e = other e

module _ (s t cs : List ℕ) where
  first-14 : (n : ℕ) → book_check s ≡ Ok n → ((number (by_rows s t cs) ≡ 14) × (numbers.book (by_rows s t cs) ≡ 1)) ↔ NoModel s n
  unfolding by_rows
  first-14 n e =
      iff-trans
      (fourteen 1 (fresh_call s []) (behind s t cs) (second-other (fresh_call t []) _ (claims-other (consistent s t) (claims_check (pieces s t) cs) 1 (omega arith))))
      (rw (fresh-runs s n e) (runs-refused s (own-count e)))

  -- with a model of the first the second is looked at
  behind-is : (n : ℕ) → book_check s ≡ Ok n → (NoModel s n → ⊥) → by_rows s t cs ≡ (behind s t cs)
  unfolding by_rows by_book
  behind-is n e model = ap (λ (o : Outcome). by_book 1 o (behind s t cs)) (fresh-runs s n e) ∙ pick (known (leb (shortest_clash (marked s) n (entries s)) (records s)))
    where
      pick : Known (leb (shortest_clash (marked s) n (entries s)) (records s)) → by_book 1 (by_runs s n) (behind s t cs) ≡ (behind s t cs)
      pick (is_false q) = ap (λ (o : Outcome). by_book 1 o (behind s t cs)) (runs-free s n q)
      pick (is_true q) = absurd (model ((runs-refused s (own-count e)).0 (ap of.number (runs-clash s n q))))

  second-14 : (n m : ℕ) → book_check s ≡ Ok n → (NoModel s n → ⊥) → book_check t ≡ Ok m → ((number (by_rows s t cs) ≡ 14) × (numbers.book (by_rows s t cs) ≡ 2)) ↔ NoModel t m
  second-14 n m e model f =
      rw (behind-is n e model)
      (iff-trans
      (fourteen 2 (fresh_call t []) (by_claims (consistent s t) (claims_check (pieces s t) cs)) (claims-other (consistent s t) (claims_check (pieces s t) cs) 2 (omega arith)))
      (rw (fresh-runs t m f) (runs-refused t (own-count f))))

-- ---- all of it

num-true : (c : Bool) → (num c ≡ 1) ↔ (c ≡ true)
num-true true = (λ e. refl, λ e. refl)
num-true false = (λ e. absurd (omega arith), λ e. absurd (false≢true e))

module _ (s t cs out : List ℕ) where
  answered-all : (r : Comparison) → Told s t cs r → number r ≡ 0 → (i : ℕ) → i < records cs → Answered s t cs (left s t cs out r) i
  unfolding left
  answered-all (Ok c) T z i h = answered s t cs out i h T.0
  answered-all (Err k) T z i h = absurd (refused-positive k.refusal z)

  joint-all :
      (r : Comparison) → Told s t cs r → number r ≡ 0
      → (together r ≡ 1) ↔ ((M : Model (either_marked s t) (pieces s t)) × keeps_all M (facts s) × keeps_all M (facts t))
  joint-all (Ok c) T z = iff-trans (num-true c) (rw T.1 (joint-models s t cs T.0))
  joint-all (Err k) T z = absurd (refused-positive k.refusal z)

  pub demanded : (r : Comparison) (out' : List ℕ) → Determined s t cs out r out' → Demanded s t cs (length out) out' r
  demanded r out' D =
      let T : Told s t cs r = subst (Told s t cs) (sym D.0) (told s t cs (length out)) in
      record {
        answered = λ z i h. rw D.1 (answered-all r T z i h);
        joint = joint-all r T;
        first = λ n l e. rw (D.0 ∙ roomy s t cs (length out) l) (first-14 s t cs n e);
        second = λ n m l e model f. rw (D.0 ∙ roomy s t cs (length out) l) (second-14 s t cs n m e model f);
      }
