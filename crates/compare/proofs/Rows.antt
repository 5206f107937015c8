-- The outcome, row by row, and what it leaves. Assumes nothing.
use Rattle.records.proofs.Refuseds.{same-reason, same-place}
use Rattle.outcomes.proofs.Accepteds.{same-pieces}
use Rattle.std.specs.Prelude.{Err, Ok}
use Rattle.records.specs.Refused.{refused_at}
use Rattle.outcomes.specs.Accepted.{Outcome, accepted_with}
use Rattle.compare.specs.Refused.{Comparison, refused_of}
use Prim.Native.Nat.{ℕ, max, ◌-◌, ◌*◌, ◌<◌, ◌≤◌}
use mathlib.Core.Path.{◌≡◌, refl, sym, ap, ap₂, ◌∙◌}
use mathlib.Core.Bool.{Bool, true, false, not}
use mathlib.Core.List.{List, [], ◌++◌}
use native.Mathlib.Omega.{arith}
use borrow.Author.Tests.{lt-ltb, le-ltb}
use lib.Dec.{leb}
use lib.ListN.{length, get_or}
use Rattle.lists.specs.Front.{front}
use Rattle.lists.proofs.Bools.{Known, is_true, is_false, known}
use Rattle.lists.proofs.Tabs.{tab-at, tab-length}
use Rattle.rules.specs.Follows.{clash}
use Rattle.rules.specs.Verdict.{verdict}
use Rattle.rules.specs.Entries.{shortest_clash}
use Rattle.rules.proofs.Runs.{shortest-same}
use Rattle.records.specs.Record.{records}
use Rattle.records.specs.Facts.{entries, facts}
use Rattle.records.specs.Marked.{marked}
use Rattle.records.specs.Check.{book_check, claims_check}
use Rattle.records.specs.declared.Refusal.{Refusal}
use Rattle.records.specs.declared.Refusal.TheVariants.{ShortBuffer, Contradiction}
use Rattle.records.proofs.Accepted.{accepted, accepted-within, accepted-positive, accepted-pieces}
use Rattle.records.proofs.Marks.{accepted-whole-unmarked}
use Rattle.compare.specs.Joint.{pieces, consistent}
use Rattle.compare.specs.Agreement.{threes}
use Rattle.compare.proofs.JointJoining.{joint-pieces}
use Rattle.compare.proofs.Threes.{threes-same}
use Rattle.groups.specs.Index.{book_visits}
use Rattle.index.specs.Parts as parts
use Rattle.outcomes.specs.Call as calls
use Rattle.records.specs.Claimed.{answers_to, claimed, picked_facts}
use Rattle.outcomes.specs.Call.{pairs_of, by_runs}
use Rattle.outcomes.specs.Fresh.{fresh_call, uncounted}
use Rattle.outcomes.specs.Lent.{unasked}
use Rattle.answers.proofs.Fresh.{fresh-refused, fresh-runs, counts-refused, counts-accepted}
use Rattle.closure.specs.Counted.{Counted}
use Rattle.outcomes.proofs.Buffers.{front-whole}
use Rattle.compare.specs.Answers.{answer_of, bytes_of}
use Rattle.compare.specs.Call.{by_book, by_claims, by_rows, outcome, left, Determined}
use Rattle.compare.specs.Judging.{Answered, Ready, Rows, Judged}
use Rattle.compare.proofs.Joining.{laid-is}

-- ---- one book

-- what row 14 comes to
module _ (s : List ℕ) (n : ℕ) where
  pub runs-clash : leb (shortest_clash (marked s) n (entries s)) (records s) ≡ true → by_runs s n ≡ refused_at Contradiction (shortest_clash (marked s) n (entries s) - 1)
  unfolding by_runs
  runs-clash e = rw (e, by_runs)

  pub runs-free :
      leb (shortest_clash (marked s) n (entries s)) (records s) ≡ false
      → by_runs s n ≡ accepted_with n (length (book_visits n (pairs_of s))) (length (parts.shadows (book_visits n (pairs_of s))))
  unfolding by_runs
  runs-free e = rw (e, by_runs)

-- with more pieces counted the same rows refuse at the same place
module _ (s : List ℕ) (a n : ℕ) (e : book_check s ≡ Ok a) (l : a ≤ n) (k : ℕ) (rest : Comparison) where
  pub book-same : by_book k (fresh_call s []) rest ≡ by_book k (by_runs s n) rest
  unfolding by_book
  book-same = ap (λ (o : Outcome). by_book k o rest) (fresh-runs s a e) ∙ pick (known (leb (shortest_clash (marked s) a (entries s)) (records s)))
    where
      shortest : shortest_clash (marked s) n (entries s) ≡ shortest_clash (marked s) a (entries s)
      shortest = let A = accepted s a e in shortest-same (marked s) a n (entries s) (accepted-within A) (accepted-positive A) (accepted-whole-unmarked A) l

      pick : Known (leb (shortest_clash (marked s) a (entries s)) (records s)) → by_book k (by_runs s a) rest ≡ by_book k (by_runs s n) rest
      pick (is_true t) =
          ap (λ (o : Outcome). by_book k o rest)
          (runs-clash s a t ∙ ap (λ (x : ℕ). refused_at Contradiction (x - 1)) (sym shortest) ∙ sym (runs-clash s n (ap (λ (x : ℕ). leb x (records s)) shortest ∙ t)))
      pick (is_false t) =
          ap (λ (o : Outcome). by_book k o rest) (runs-free s a t) ∙ sym (ap (λ (o : Outcome). by_book k o rest) (runs-free s n (ap (λ (x : ℕ). leb x (records s)) shortest ∙ t)))

  pub counted : n ≤ 2048 → Counted s n
  counted h = record { own = a; sound = e; covered = l; small = h }

-- the answers of a book, one by one
pub answers_at : (s : List ℕ) (n : ℕ) (cs : List ℕ) (i : ℕ) → i < records cs → get_or (answers_to s n cs) i 0 ≡ answer_of s n cs i
unfolding answers_to answer_of
answers_at s n cs i h = tab-at (λ i. verdict (marked s) n (picked_facts s cs i) (claimed cs i)) (records cs) i 0 h

pub answers-length : (s : List ℕ) (n : ℕ) (cs : List ℕ) → length (answers_to s n cs) ≡ records cs
unfolding answers_to
answers-length s n cs = tab-length _ 0 (records cs)

-- what judging it leaves in the lent answers
pub answers-left :
    (s : List ℕ) (n : ℕ) (cs was : List ℕ) (r : Outcome) (answers : List ℕ) → length was ≡ records cs → r ≡ by_runs s n → answers ≡ (calls.left s cs (unasked was) r).answers → Answered s n cs r answers
unfolding calls.left calls.indexed
answers-left s n cs was r answers long o l = record { outcome-is = o; answers-are = λ a b c q. are a b c q (known (leb (shortest_clash (marked s) n (entries s)) (records s))) }
  where
    own : (a b c : ℕ) → a ≡ n → r ≡ accepted_with a b c → answers ≡ answers_to s n cs
    own a b c e q =
        l
        ∙ ap (λ (x : Outcome). (calls.left s cs (unasked was) x).answers) q
        ∙ front-whole (answers_to s a cs) was (answers-length s a cs ∙ sym long)
        ∙ ap (λ (k : ℕ). answers_to s k cs) e

    are : (a b c : ℕ) → r ≡ accepted_with a b c → Known (leb (shortest_clash (marked s) n (entries s)) (records s)) → answers ≡ answers_to s n cs
    are a b c q (is_false t) = let z = sym q ∙ o ∙ runs-free s n t in let e : a ≡ n = same-pieces z in own a b c e q
    are a b c q (is_true t) = let z = sym q ∙ o ∙ runs-clash s n t in let y : ◌≡◌ {A = ℕ} 0 1 = cc in absurd (omega arith)

-- a fresh call on it, and what comes after
module _ (k : ℕ) (s : List ℕ) (rest : Comparison) where
  pub after-refused : {r : Refusal} {i : ℕ} → uncounted (fresh_call s []) ≡ refused_at r i → refused_of k r i ≡ by_book k (fresh_call s []) rest
  unfolding by_book
  after-refused q = sym (ap (λ (x : Outcome). by_book k x rest) (counts-refused (fresh_call s []) q))

  pub after-accepted : {n : ℕ} → uncounted (fresh_call s []) ≡ Ok n → rest ≡ by_book k (fresh_call s []) rest
  unfolding by_book
  after-accepted q = sym (ap (λ (x : Outcome). by_book k x rest) (counts-accepted (fresh_call s []) q).2)

-- ---- two books

-- what comes after the first
abbrev pub behind : List ℕ → List ℕ → List ℕ → Comparison
behind s t cs = by_book 2 (fresh_call t []) (by_claims (consistent s t) (claims_check (pieces s t) cs))

module _ (s t cs out : List ℕ) where
  refused : (k : ℕ) (r : Refusal) (i : ℕ) → refused_of k r i ≡ by_rows s t cs → Judged s t cs out (refused_of k r i) out
  unfolding left
  refused k r i e = (e, refl)

  -- where a row before 14 refuses, the fresh calls and the refusal tell which book it is of, or that it is the claims'
  pub rows-first : {r : Refusal} {i : ℕ} → book_check s ≡ refused_at r i → by_rows s t cs ≡ by_book 1 (fresh_call s []) (by_book 2 (fresh_call t []) (refused_of 0 r i))
  unfolding by_rows by_book
  rows-first {r} {i} e =
      ap (λ (o : Outcome). by_book 1 o (behind s t cs)) (fresh-refused s e)
      ∙ sym (ap (λ (o : Outcome). by_book 1 o (by_book 2 (fresh_call t []) (refused_of 0 r i))) (fresh-refused s e))

  pub rows-second : {r : Refusal} {i : ℕ} → book_check t ≡ refused_at r i → by_rows s t cs ≡ by_book 1 (fresh_call s []) (by_book 2 (fresh_call t []) (refused_of 0 r i))
  unfolding by_rows by_book
  rows-second {r} {i} e =
      ap (by_book 1 (fresh_call s []))
      (ap (λ (o : Outcome). by_book 2 o (by_claims (consistent s t) (claims_check (pieces s t) cs))) (fresh-refused t e)
      ∙ sym (ap (λ (o : Outcome). by_book 2 o (refused_of 0 r i)) (fresh-refused t e)))

  -- then nothing is written
  pub rest-refused : (r : Refusal) (i : ℕ) (o u : Outcome) (d : Comparison) → d ≡ by_book 1 o (by_book 2 u (refused_of 0 r i)) → out ≡ left s t cs out d
  unfolding left by_book
  rest-refused r i (Err x) u d e = rw e
  rest-refused r i (Ok x) (Err p) d e = rw e
  rest-refused r i (Ok x) (Ok p) d e = rw e

  module _ {a b : ℕ} (first : book_check s ≡ Ok a) (second : book_check t ≡ Ok b) where
    pub rows-claims : {r : Refusal} {i : ℕ} → claims_check (max a b) cs ≡ refused_at r i → by_rows s t cs ≡ by_book 1 (fresh_call s []) (by_book 2 (fresh_call t []) (refused_of 0 r i))
    unfolding by_rows by_claims
    rows-claims {r} {i} e =
        let f : claims_check (pieces s t) cs ≡ refused_at r i = ap (λ (n : ℕ). claims_check n cs) (sym (joint-pieces s t a b first second)) ∙ e in
        ap (λ (x : _). by_book 1 (fresh_call s []) (by_book 2 (fresh_call t []) (by_claims (consistent s t) x))) f

    -- ---- behind all rows but 14

    module _ (fit : claims_check (max a b) cs ≡ Ok tt) where
      small : max a b ≤ 2048
      small = omega (arith, accepted-pieces (accepted s a first), accepted-pieces (accepted t b second))

      pub first_counted : Counted s (max a b)
      first_counted = counted s a (max a b) first (omega arith) 0 (Ok true) small

      pub second-counted : Counted t (max a b)
      second-counted = counted t b (max a b) second (omega arith) 0 (Ok true) small

      rows_are : by_rows s t cs ≡ by_book 1 (by_runs s (max a b)) (by_book 2 (by_runs t (max a b)) (Ok (consistent s t)))
      unfolding by_rows by_claims
      rows_are =
          let f : claims_check (pieces s t) cs ≡ Ok tt = ap (λ (n : ℕ). claims_check n cs) (sym (joint-pieces s t a b first second)) ∙ fit in
          book-same s a (max a b) first (omega arith) 1 (behind s t cs)
          ∙ ap (by_book 1 (by_runs s (max a b)))
          (book-same t b (max a b) second (omega arith) 2 (by_claims (consistent s t) (claims_check (pieces s t) cs)) ∙ ap (λ (x : _). by_book 2 (by_runs t (max a b)) (by_claims (consistent s t) x)) f)

      pub first-clashed : {r : Refusal} {i : ℕ} {o : Outcome} → o ≡ by_runs s (max a b) → o ≡ refused_at r i → Judged s t cs out (refused_of 1 r i) out
      unfolding by_book
      first-clashed {r} {i} e q = refused 1 r i (sym (rows_are ∙ ap (λ (x : Outcome). by_book 1 x (by_book 2 (by_runs t (max a b)) (Ok (consistent s t)))) (sym e ∙ q)))

      pub second-clashed :
          {r : Refusal} {i x y z : ℕ} {o u : Outcome} → o ≡ by_runs s (max a b) → o ≡ accepted_with x y z → u ≡ by_runs t (max a b) → u ≡ refused_at r i
          → Judged s t cs out (refused_of 2 r i) out
      unfolding by_book
      second-clashed {r} {i} e q f p = refused 2 r i (sym (rows_are ∙ ap₂ (λ (x y : Outcome). by_book 1 x (by_book 2 y (Ok (consistent s t)))) (sym e ∙ q) (sym f ∙ p)))

      pub both-judged :
          {x y z u v w : ℕ} {o p : Outcome} (ours theirs out' : List ℕ) (c : Bool) → Answered s (max a b) cs o ours → Answered t (max a b) cs p theirs
          → o ≡ accepted_with x y z → p ≡ accepted_with u v w → c ≡ not (clash (marked (s ++ t)) (max a b) (facts (s ++ t)))
          → out' ≡ front (threes (λ i. get_or ours i 0) (λ i. get_or theirs i 0) (length ours)) out → Judged s t cs out (Ok c) out'
      unfolding by_book left bytes_of
      both-judged ours theirs out' c A B q r d e =
          let ours-are = A.answers-are _ _ _ q in
          let theirs-are = B.answers-are _ _ _ r in (
            sym
                (rows_are ∙ ap₂ (λ (x y : Outcome). by_book 1 x (by_book 2 y (Ok (consistent s t)))) (sym A.outcome-is ∙ q) (sym B.outcome-is ∙ r)
                ∙ ap Ok (sym (d ∙ laid-is s t a b first second))),
            e
                ∙ ap₂ (λ (x y : List ℕ). front (threes (λ i. get_or x i 0) (λ i. get_or y i 0) (length x)) out) ours-are theirs-are
                ∙ ap (λ (k : ℕ). front (threes (λ i. get_or (answers_to s (max a b) cs) i 0) (λ i. get_or (answers_to t (max a b) cs) i 0) k) out) (answers-length s (max a b) cs)
                ∙ ap (λ (x : List ℕ). front x out)
                (threes-same _ _ (answer_of s (max a b) cs) (answer_of t (max a b) cs) (records cs) (answers_at s (max a b) cs) (answers_at t (max a b) cs))
                ∙ ap (λ (k : ℕ). front (threes (answer_of s k cs) (answer_of t k cs) (records cs)) out) (joint-pieces s t a b first second),
          )

-- ---- row 1

pub short-refused : (s t cs out : List ℕ) → length out < 3 * records cs → Determined s t cs out (refused_of 0 ShortBuffer 0) out
unfolding outcome left
short-refused s t cs out l = (sym (rw (lt-ltb (length out) (3 * records cs) l, outcome)), refl)

pub roomy : (s t cs : List ℕ) (room : ℕ) → 3 * records cs ≤ room → outcome s t cs room ≡ by_rows s t cs
unfolding outcome
roomy s t cs room l = rw (le-ltb room (3 * records cs) l, outcome)

pub rows-determined : (s t cs out : List ℕ) (r : Comparison) (out' : List ℕ) → 3 * records cs ≤ length out → Judged s t cs out r out' → Determined s t cs out r out'
rows-determined s t cs out r out' l J = (J.0 ∙ sym (roomy s t cs (length out) l), J.1)

-- ---- rows 3 to 13

module _ (s t cs : List ℕ) where
  pub rows-refuse : {x : Refusal} {i : ℕ} → by_rows s t cs ≡ by_book 1 (fresh_call s []) (by_book 2 (fresh_call t []) (refused_of 0 x i)) → Rows s t cs (refused_at x i)
  rows-refuse {x} {i} e = record {
    accepted = λ n q. let z : ◌≡◌ {A = ℕ} 0 1 = cc in absurd (omega arith);
    refused = λ y j q. let a : x ≡ y = same-reason q in let b : i ≡ j = same-place q in rw (a, b) at e;
  }

  pub rows-accept : {n : ℕ} → Ready s t cs n → Rows s t cs (Ok n)
  rows-accept {n} R = record {
    accepted = λ m q. let a : n ≡ m = cc in rw a at R;
    refused = λ y j q. let z : ◌≡◌ {A = ℕ} 0 1 = cc in absurd (omega arith);
  }
