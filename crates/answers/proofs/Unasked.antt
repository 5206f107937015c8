-- A call with an index that nobody asks for: its outcome and its answers. Assumes nothing.
use Rattle.std.specs.Prelude.{Err, Ok}
use Rattle.records.specs.Refused.{refused_at}
use Rattle.outcomes.specs.Accepted.{Outcome}
use Prim.Native.Nat.{ℕ, ◌<◌, ◌≤◌}
use mathlib.Core.Path.{◌≡◌, refl, ap, ◌∙◌}
use mathlib.Core.Bool.{Bool, true, false}
use mathlib.Core.List.{List, ◌++◌}
use borrow.Author.Tests.{lt-ltb}
use lib.Dec.{eqb}
use lib.ListN.{length, take, drop, replicate, length-replicate}
use Rattle.lists.specs.Front.{front}
use Rattle.records.specs.Record.{records}
use Rattle.records.specs.Refusal.{refusal_number}
use Rattle.records.specs.Claimed.{answers_to}
use Rattle.records.specs.declared.Refusal.{Refusal}
use Rattle.records.specs.declared.Refusal.TheVariants.{ShortBuffer}
use Rattle.outcomes.specs.Lent.{Lent, lent, unasked, short_lent}
use Rattle.outcomes.specs.Call.{by_runs, outcome, indexed, cleared, left}
use Rattle.outcomes.proofs.Buffers.{cut}
use Rattle.answers.specs.Judging.{rows_check}
use Rattle.answers.proofs.Fresh.{long-lent}
use Rattle.answers.proofs.Calls.{short-refused, rows-accepted, rows-refused, judged}

abbrev answers_of : Lent → List ℕ
answers_of l = l.answers

-- what a call leaves in the answers does not depend on the index
same-answers : (s cs : List ℕ) (l m : Lent) (r : Outcome) → l.answers ≡ m.answers → (left s cs l r).answers ≡ (left s cs m r).answers
unfolding left indexed cleared
same-answers s cs l m (Ok n) e = ap (front (answers_to s n.pieces cs)) e
same-answers s cs l m (Err x) e = pick (eqb (refusal_number x.refusal) 14)
  where
    pick : (b : Bool) → answers_of (elim b [ true ↦ cleared l | false ↦ l ]) ≡ answers_of (elim b [ true ↦ cleared m | false ↦ m ])
    pick true = e
    pick false = e

module _ (s cs answers : List ℕ) where
  -- the outcome, and the answers at exit
  abbrev pub Alone : Outcome → List ℕ → Type 0
  Alone r a = (r ≡ outcome s cs (unasked answers)) × (a ≡ (left s cs (unasked answers) r).answers)

  alone-long : records cs ≤ length answers → short_lent cs (unasked answers) ≡ false
  alone-long =
      long-lent cs (replicate 2560 0) (replicate 1280 0) (replicate 8192 0) (replicate 2048 0) answers
      (length-replicate {A = ℕ} 2560 0) (length-replicate {A = ℕ} 1280 0) (length-replicate {A = ℕ} 8192 0) (length-replicate {A = ℕ} 2048 0)

  short-answers : length answers < records cs → short_lent cs (unasked answers) ≡ true
  unfolding short_lent
  short-answers h = rw (lt-ltb (length answers) (records cs) h)

  pub alone-short : length answers < records cs → Alone (refused_at ShortBuffer 0) answers
  alone-short h = let P = short-refused s cs (unasked answers) (short-answers h) in (P.0.0, ap answers_of P.0.1)

  module _ (room : records cs ≤ length answers) where
    pub alone-refused : {r : Refusal} {i : ℕ} → rows_check s cs ≡ refused_at r i → Alone (refused_at r i) answers
    alone-refused q = let P = rows-refused s cs (unasked answers) (alone-long room) q in (P.0.0, ap answers_of P.0.1)

    pub alone-judged :
        {n : ℕ} → rows_check s cs ≡ Ok n → (r : Outcome) (a : List ℕ) → r ≡ by_runs s n → a ≡ (left s cs (unasked (take (records cs) answers)) r).answers
        → Alone r (a ++ drop (records cs) answers)
    alone-judged q r a o e =
        let R = rows-accepted s cs q in
        let l = cut (records cs) (unasked answers) in
        let P = judged s cs (unasked answers) (alone-long room) R.0 R.1 r (left s cs l r) (record { outcome-is = o; left_is = refl }) in
        (P.0.0, ap (λ (x : List ℕ). x ++ drop (records cs) answers) (e ∙ same-answers s cs (unasked (take (records cs) answers)) l r refl) ∙ ap answers_of P.0.1)
