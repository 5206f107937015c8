-- The steps of two books that are judged, among n pieces, the count of the larger. Assumes nothing.
use Rattle.std.specs.Prelude.{Ok}
use Rattle.records.specs.Refused.{refused_at}
use Rattle.outcomes.specs.Accepted.{Outcome, accepted_with}
use Rattle.compare.specs.Refused.{refused_of}
use Prim.Native.Nat.{ℕ, max, ◌*◌, ◌≤◌}
use mathlib.Core.Path.{◌≡◌, sym, ap₂, subst, ◌∙◌}
use mathlib.Core.Bool.{Bool, not}
use mathlib.Core.List.{List, [], ◌++◌}
use native.Mathlib.Omega.{arith}
use lib.ListN.{length, get_or, take, drop, replicate, length-replicate}
use lib.Seq.{length-take-le, length_front, take-append_seam}
use Rattle.lists.specs.Front.{front}
use Rattle.rules.specs.Follows.{clash}
use Rattle.records.specs.Record.{records}
use Rattle.records.specs.Facts.{facts}
use Rattle.records.specs.Marked.{marked}
use Rattle.records.specs.declared.Refusal.{Refusal}
use Rattle.records.proofs.Accepted.{accepted-claims}
use Rattle.compare.specs.Agreement.{threes}
use Rattle.compare.specs.Judging.{Judgeable, Answered, Ready, Judged}
use Rattle.answers.specs.Judging.{Answerable}
use Rattle.compare.proofs.JointJoining.{short-books}
use Rattle.compare.proofs.Joining.{judgeable}
use Rattle.compare.proofs.Rows.{first_counted, second-counted, first-clashed, second-clashed, both-judged}

-- ---- the books

-- the front of an array has room for the answers, which stand there when they are written
module _ {s t cs : List ℕ} {n : ℕ} (R : Ready s t cs n) where
  abbrev zeros : List ℕ
  zeros = replicate {A = ℕ} 4096 0

  pub front-fit : records cs ≤ length (replicate {A = ℕ} 4096 0)
  front-fit = omega (arith, (accepted-claims (max R.own R.other) cs R.fit).few, length-replicate {A = ℕ} 4096 0)

  pub front_long : length (take (records cs) (replicate {A = ℕ} 4096 0)) ≡ records cs
  front_long = length-take-le (records cs) zeros front-fit

  module _ (ours : List ℕ) (l : length ours ≡ length (take (records cs) (replicate {A = ℕ} 4096 0))) where
    pub answers-fit : records cs ≤ length (ours ++ drop (records cs) (replicate {A = ℕ} 4096 0))
    answers-fit = subst (λ (k : ℕ). records cs ≤ k) (sym (length_front zeros ours (records cs) l)) front-fit

    pub answers-long : length (take (records cs) (ours ++ drop (records cs) (replicate {A = ℕ} 4096 0))) ≡ records cs
    answers-long = length-take-le (records cs) (ours ++ drop (records cs) zeros) answers-fit

    pub answers-there : take (records cs) (ours ++ drop (records cs) (replicate {A = ℕ} 4096 0)) ≡ ours
    answers-there = subst (λ (k : ℕ). take k (ours ++ drop (records cs) zeros) ≡ ours) (l ∙ front_long) (take-append_seam ours (drop (records cs) zeros))

-- two runs of answers, and room for what is written of them
pub answers-room : (cs : List ℕ) {room i k : ℕ} → 3 * records cs ≤ room → i ≡ records cs → k ≡ records cs → (k ≡ i) × (3 * i ≤ room)
answers-room cs h p q = (q ∙ sym p, rw p h)

module _ {s t cs : List ℕ} {n : ℕ} (R : Ready s t cs n) where
  pub first-answerable : {k : ℕ} → k ≡ records cs → Answerable s n cs k
  first-answerable q = rw R.larger (record { counted = first_counted s t cs [] R.first R.second R.fit; fit = R.fit; rooms = q })

  pub second-answerable : {k : ℕ} → k ≡ records cs → Answerable t n cs k
  second-answerable q = rw R.larger (record { counted = second-counted s t cs [] R.first R.second R.fit; fit = R.fit; rooms = q })

  pub both-judgeable : Judgeable (s ++ t) n × (length s ≤ 49152) × (length t ≤ 49152)
  both-judgeable =
      let short = short-books s t R.own R.other R.first R.second in
      (rw R.larger (judgeable s t R.own R.other R.first R.second), short.0, short.1)

  module _ {o : Outcome} {ours : List ℕ} (A : Answered s n cs o ours) where
    pub first-refuses : {r : Refusal} {i : ℕ} {out : List ℕ} → o ≡ refused_at r i → Judged s t cs out (refused_of 1 r i) out
    first-refuses {out = out} q = first-clashed s t cs out R.first R.second R.fit (rw R.larger at A.outcome-is) q

    module _ {x y z : ℕ} (q : o ≡ accepted_with x y z) {p : Outcome} {theirs : List ℕ} (B : Answered t n cs p theirs) where
      pub second-refuses : {r : Refusal} {i : ℕ} {out : List ℕ} → p ≡ refused_at r i → Judged s t cs out (refused_of 2 r i) out
      second-refuses {out = out} h = second-clashed s t cs out R.first R.second R.fit (rw R.larger at A.outcome-is) q (rw R.larger at B.outcome-is) h

      pub both-answer :
          {u v w : ℕ} {c : Bool} {ours' theirs' : List ℕ} (out : List ℕ) {out' : List ℕ} → p ≡ accepted_with u v w → c ≡ not (clash (marked (s ++ t)) n (facts (s ++ t))) → ours' ≡ ours → theirs' ≡ theirs
          → out' ≡ front (threes (λ i. get_or ours' i 0) (λ i. get_or theirs' i 0) (length ours')) out → Judged s t cs out (Ok c) out'
      both-answer {c = c} out {out' = out'} h d x y f =
          both-judged s t cs out R.first R.second R.fit ours theirs out' c (rw R.larger at A) (rw R.larger at B) q h (rw R.larger at d)
          (f ∙ ap₂ (λ (x y : List ℕ). front (threes (λ i. get_or x i 0) (λ i. get_or y i 0) (length x)) out) x y)
