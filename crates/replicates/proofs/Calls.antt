-- The call put together: what its inner functions ask and give, and its outcome, window and bytes. Assumes nothing.
use Rattle.outcomes.proofs.Accepteds.{same-pieces}
use Rattle.std.specs.Prelude.{Ok}
use Rattle.records.specs.Refused.{refused_at}
use Rattle.outcomes.specs.Accepted.{accepted_with}
use Prim.Native.Nat.{ℕ, ◌+◌, ◌-◌, ◌*◌, ◌<◌, ◌≤◌}
use mathlib.Core.Path.{◌≡◌, refl, sym, ap, ap₂, ◌∙◌}
use mathlib.Core.Bool.{false}
use mathlib.Core.List.{List, []}
use native.Mathlib.Omega.{arith}
use borrow.Author.Tests.{lt-ltb, le-ltb}
use lib.ListN.{length}
use Rattle.lists.specs.Front.{front}
use Rattle.matrices.specs.Matrix.{bit_of}
use Rattle.rules.specs.Follows.{clash}
use Rattle.records.specs.Facts.{facts}
use Rattle.records.specs.Marked.{marked}
use Rattle.records.specs.Check.{book_check, claims_check}
use Rattle.records.specs.Refusal.{scan}
use Rattle.records.specs.declared.Refusal.{Refusal}
use Rattle.records.specs.declared.Refusal.TheVariants.{ShortBuffer, Contradiction}
use Rattle.index.specs.Parts.{shadows}
use Rattle.groups.specs.Index.{book_visits}
use Rattle.contradiction.specs.Settled.{Clashed}
use Rattle.closure.specs.Apart.{Aparts}
use Rattle.outcomes.specs.Call.{pairs_of, by_runs, by_claims, by_book}
use Rattle.claims.proofs.Counts.{own-count}
use Rattle.answers.proofs.Judges.{refuses, accepts}
use Rattle.replicates.specs.declared.Window.{Window}
use Rattle.replicates.specs.declared.Replicated.{Replicated}
use Rattle.replicates.specs.Before.{bytes_from}
use Rattle.replicates.specs.Looking.{Sequence}
use Rattle.replicates.specs.Log.{entry_count, sequence, window_of}
use Rattle.replicates.specs.Call.{apart_in, by_part, outcome, bytes_in, left, handed_back, Determined}
use Rattle.replicates.specs.Writing.{Fits, Judged}
use Rattle.replicates.proofs.Same.{bytes_same}
use Rattle.replicates.proofs.Sequences.{handed-length, sequence-long, pieces-below}
use Rattle.replicates.proofs.Rows.{passes}

-- ---- the bytes of a part that fits

module _ (s : List ℕ) (n : ℕ) (w : Window) (log : List ℕ) (few : w.count ≤ length w.pieces) (small : n ≤ 2048) (F : Fits n w log) where
  pub asks :
      (seq a : List ℕ) (room : ℕ) → seq ≡ sequence w log → length a ≡ 65536 → 2 * entry_count log ≤ room
      → Sequence seq a × (w.count ≤ length seq) × (length seq < 100000) × (2 * length seq ≤ 2 * w.count + room)
  asks seq a room e wide l =
      let long : length seq ≡ w.count + entry_count log = ap length e ∙ sequence-long w log few in
      let short : w.count ≤ 31 = F.short in
      let entries : entry_count log ≤ 32768 = F.few in (
        record { wide = wide; pieces = λ j k. rw e (omega (arith, small, pieces-below w log few n F j (rw e at k))) },
        omega arith,
        omega arith,
        omega arith,
      )

  pub writes :
      (seq a out out' : List ℕ) → seq ≡ sequence w log → Aparts (marked s) n (facts s) a
      → out' ≡ front (bytes_from (bit_of a) seq w.count (length seq - w.count)) out → out' ≡ front (bytes_in s n w log) out
  unfolding bytes_in
  writes seq a out out' e A o =
      let long : length (sequence w log) ≡ w.count + entry_count log = sequence-long w log few in
      let m : length seq - w.count ≡ entry_count log = ap (λ (l : List ℕ). length l - w.count) e ∙ omega arith in
      o
      ∙ ap₂ (λ (l : List ℕ) (k : ℕ). front (bytes_from (bit_of a) l w.count k) out) e m
      ∙ ap (λ (l : List ℕ). front l out)
      (bytes_same (bit_of a) (apart_in s n) (sequence w log) (sequence w log) (length (sequence w log))
      (λ j q l k. A.bits _ _ (pieces-below w log few n F j l) (pieces-below w log few n F q k))
      w.count (entry_count log) (omega arith))
      ∙ ap (λ (c : ℕ). front (bytes_from (apart_in s n) (sequence w log) c (entry_count log)) out) (sym (handed-length w log few))

-- ---- behind rows 1 to 9

module _ (s : List ℕ) (n : ℕ) (sound : book_check s ≡ Ok n) (w : Window) (log out : List ℕ) where
  refused : (r : Refusal) (i : ℕ) (d : Replicated) → d ≡ record { outcome = refused_at r i; window = w } → refused_at r i ≡ by_part w log (by_runs s n) → Judged s n w log out d out
  unfolding handed_back left
  refused r i d q e = rw q (record { outcome-is = e; window-is = refl; bytes-are = refl })

  pub clash-refused : (place : ℕ) (d : Replicated) → d ≡ record { outcome = refused_at Contradiction place; window = w } → Clashed (marked s) n s place → Judged s n w log out d out
  unfolding by_part
  clash-refused place d q C = refused Contradiction place d q (ap (by_part w log) (refuses s n (own-count sound) place C))

  module _ {nodes shadowed : ℕ} (c : false ≡ clash (marked s) n (facts s)) (k : (nodes ≡ length (book_visits n (pairs_of s))) × (shadowed ≡ length (shadows (book_visits n (pairs_of s))))) where
    free : accepted_with n nodes shadowed ≡ by_runs s n
    free = accepts s n (own-count sound) nodes shadowed c k.0 k.1

    pub part-refused :
        (r : Refusal) (i : ℕ) (d : Replicated) → d ≡ record { outcome = refused_at r i; window = w } → refused_at r i ≡ by_part w log (accepted_with n nodes shadowed) → Judged s n w log out d out
    part-refused r i d e q = refused r i d e (q ∙ ap (by_part w log) free)

    pub part-written :
        (a b c : ℕ) (w' : Window) (out' : List ℕ) → accepted_with a b c ≡ by_part w log (accepted_with n nodes shadowed) → w' ≡ window_of (sequence w log)
        → out' ≡ front (bytes_in s n w log) out → Judged s n w log out (record { outcome = accepted_with a b c; window = w' }) out'
    unfolding handed_back left
    part-written a b c w' out' q v o =
        let z = (passes n nodes shadowed log w {a = a} {b = b} {c = c} (sym q)).1 in
        let m : n ≡ a = same-pieces z in
        record { outcome-is = q ∙ ap (by_part w log) free; window-is = v; bytes-are = o ∙ ap (λ (k : ℕ). front (bytes_in s k w log) out) m }

-- ---- rows 1 to 9

module _ (s : List ℕ) (w : Window) (log out : List ℕ) where
  pub short-refused : (d : Replicated) → d ≡ record { outcome = refused_at ShortBuffer 0; window = w } → length out < 2 * entry_count log → Determined s w log out d out
  unfolding outcome handed_back left
  short-refused d q l = rw q (record { outcome-is = sym (rw (lt-ltb (length out) (2 * entry_count log) l, outcome)); window-is = refl; bytes-are = refl })

  roomy : 2 * entry_count log ≤ length out → outcome s w log (length out) ≡ by_part w log (by_book s [] (book_check s))
  unfolding outcome
  roomy l = rw (le-ltb (length out) (2 * entry_count log) l, outcome)

  pub book-refused : (r : Refusal) (i : ℕ) (d : Replicated) → d ≡ record { outcome = refused_at r i; window = w } → 2 * entry_count log ≤ length out → book_check s ≡ refused_at r i → Determined s w log out d out
  unfolding by_book by_part handed_back left
  book-refused r i d q l e = rw q (record { outcome-is = sym (roomy l ∙ ap (λ (b : _). by_part w log (by_book s [] b)) e); window-is = refl; bytes-are = refl })

  pub judged-all : (n : ℕ) (r : Replicated) (out' : List ℕ) → 2 * entry_count log ≤ length out → book_check s ≡ Ok n → Judged s n w log out r out' → Determined s w log out r out'
  unfolding by_book by_claims claims_check scan
  judged-all n r out' l e J =
      record {
        outcome-is = J.outcome-is ∙ sym (roomy l ∙ ap (λ (b : _). by_part w log (by_book s [] b)) e);
        window-is = J.window-is;
        bytes-are = J.bytes-are;
      }
