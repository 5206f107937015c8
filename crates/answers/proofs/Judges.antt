-- Row 14's outcome and what it leaves, in buffers of exactly the lengths that are written. Assumes nothing.
use Rattle.records.specs.Refused.{refused_at}
use Rattle.outcomes.specs.Accepted.{accepted_with}
use Prim.Native.Nat.{ℕ, ◌-◌}
use mathlib.Core.Path.{◌≡◌, refl, sym, ap, ◌∙◌}
use mathlib.Core.Bool.{false}
use mathlib.Core.List.{List}
use native.Mathlib.Omega.{arith}
use borrow.Author.Tests.{le-leb, lt-leb}
use lib.ListN.{length, replicate, length-replicate}
use Rattle.lists.specs.Front.{front}
use Rattle.rules.specs.Follows.{clash}
use Rattle.rules.specs.Entries.{shortest_clash}
use Rattle.records.specs.Record.{records}
use Rattle.records.specs.Facts.{entries, facts}
use Rattle.records.specs.Marked.{marked}
use Rattle.records.specs.declared.Refusal.TheVariants.{Contradiction}
use Rattle.groups.specs.Index.{book_parens, book_visits, book_places, BookIndex}
use Rattle.parentheses.specs.Padded.{padded}
use Rattle.index.specs.Parts as on
use Rattle.contradiction.specs.Opened.{Opened}
use Rattle.contradiction.specs.Settleable.{Settleable}
use Rattle.contradiction.specs.Settled.{Clashed}
use Rattle.contradiction.proofs.SettlingLaws.{settleable-in, free-beyond, clashed-within}
use Rattle.outcomes.specs.Lent.{Lent, lent}
use Rattle.records.specs.Claimed.{answers_to}
use Rattle.outcomes.specs.Call.{pairs_of, by_runs, indexed, cleared, left}
use Rattle.closure.specs.Counted.{Counted}
use Rattle.answers.specs.Judging.{Cleared, Exact, Judged}
use Rattle.claims.proofs.Counts.{counted-settleable, counted-unmarked}
use Rattle.outcomes.proofs.Buffers.{front-whole, packed-long, answers-long, same-lent}

module _ (s : List ℕ) (n : ℕ) (sound : Counted s n) where
  pub refuses : (place : ℕ) → Clashed (marked s) n s place → refused_at Contradiction place ≡ by_runs s n
  unfolding by_runs
  refuses place C =
      let q = C.last in
      let k : place ≡ shortest_clash (marked s) n (entries s) - 1 = omega arith in
      rw (le-leb (shortest_clash (marked s) n (entries s)) (records s) (clashed-within s (counted-settleable s sound).bounded (marked s) (counted-unmarked s sound) C), by_runs) (ap (refused_at Contradiction) k)

  pub accepts :
      (nodes shadows : ℕ) → false ≡ clash (marked s) n (facts s) → nodes ≡ length (book_visits n (pairs_of s)) → shadows ≡ length (on.shadows (book_visits n (pairs_of s)))
      → accepted_with n nodes shadows ≡ by_runs s n
  unfolding by_runs
  accepts nodes shadows c e f = rw (lt-leb (shortest_clash (marked s) n (entries s)) (records s) (free-beyond s (counted-settleable s sound).bounded (marked s) (counted-unmarked s sound) c), by_runs, e, f)

pub cleared_at :
    {w x y z : ℕ} {a b c d : List ℕ} → w ≡ 2560 → x ≡ 1280 → y ≡ 8192 → z ≡ 2048 → Cleared w x y z a b c d → Cleared 2560 1280 8192 2048 a b c d
cleared_at p q r t C = rw (p, q, r, t) at C

module _ (s : List ℕ) (n : ℕ) (cs : List ℕ) (l : Lent) (X : Exact s n cs l) where
  pub settleable-at : Settleable n s (length l.parens) (length l.marks) (length l.shadows) (length l.places)
  settleable-at =
      settleable-in (counted-settleable s X.sound) (omega (arith, X.parens-long)) (omega (arith, X.marks-long)) (omega (arith, X.shadows-long)) (omega (arith, X.places-long))

  zeroed : (k : ℕ) (x : List ℕ) → length x ≡ k → front (replicate k 0) x ≡ replicate k 0
  zeroed k x e = front-whole (replicate k 0) x (length-replicate {A = ℕ} k 0 ∙ sym e)

  pub judged-refused :
      (place : ℕ) (parens marks shadows places : List ℕ) → Clashed (marked s) n s place → Cleared 2560 1280 8192 2048 parens marks shadows places → Judged s n cs l (refused_at Contradiction place) (lent parens marks shadows places l.answers)
  unfolding left cleared
  judged-refused place parens marks shadows places c z = record {
    outcome-is = refuses s n X.sound place c;
    left_is =
        same-lent
        (z.parens-are ∙ sym (zeroed 2560 l.parens X.parens-long))
        (z.marks-are ∙ sym (zeroed 1280 l.marks X.marks-long))
        (z.shadows-are ∙ sym (zeroed 8192 l.shadows X.shadows-long))
        (z.places-are ∙ sym (zeroed 2048 l.places X.places-long))
        refl;
  }

  pub judged-accepted :
      (nodes shadowed : ℕ) (parens marks shadows places answers d t : List ℕ)
      → length parens ≡ 2560 → length marks ≡ 1280 → length shadows ≡ 8192 → length places ≡ 2048
      → Opened (marked s) n (facts s) d t false → BookIndex n (pairs_of s) parens marks shadows places nodes shadowed → answers ≡ answers_to s n cs
      → Judged s n cs l (accepted_with n nodes shadowed) (lent parens marks shadows places answers)
  unfolding left indexed
  judged-accepted nodes shadowed parens marks shadows places answers d t lp lm ls la O I a =
      let sh : shadows ≡ padded 0 8192 (on.shadow_list (book_visits n (pairs_of s))) = I.shadows-are ∙ ap (λ (k : ℕ). padded 0 k (on.shadow_list (book_visits n (pairs_of s)))) ls in
      let pl : places ≡ padded 0 2048 (book_places n (pairs_of s)) = I.places-are ∙ ap (λ (k : ℕ). padded 0 k (book_places n (pairs_of s))) la in
      let fs : length (padded 0 8192 (on.shadow_list (book_visits n (pairs_of s)))) ≡ 8192 = sym (ap length sh) ∙ ls in
      let fp : length (padded 0 2048 (book_places n (pairs_of s))) ≡ 2048 = sym (ap length pl) ∙ la in
      record {
        outcome-is = accepts s n X.sound nodes shadowed O.is I.nodes-are I.shadowed-are;
        left_is =
            same-lent
            (I.parens-are ∙ ap (λ (k : ℕ). on.packed k (book_parens n (pairs_of s))) lp ∙ sym (front-whole _ l.parens (packed-long 2560 _ ∙ sym X.parens-long)))
            (I.marks-are ∙ ap (λ (k : ℕ). on.packed k (on.marks (book_visits n (pairs_of s)))) lm ∙ sym (front-whole _ l.marks (packed-long 1280 _ ∙ sym X.marks-long)))
            (sh ∙ sym (front-whole _ l.shadows (fs ∙ sym X.shadows-long)))
            (pl ∙ sym (front-whole _ l.places (fp ∙ sym X.places-long)))
            (a ∙ sym (front-whole _ l.answers (answers-long s n cs ∙ sym X.answers-long)));
      }
