-- The call put together: the steps as a run of their own, the answer, and the rows. Assumes nothing.
use Rattle.std.specs.Prelude.{Ok}
use Rattle.records.specs.Refused.{refused_at}
use Rattle.chain_writing.specs.Reply.{Reply}
use Prim.Native.Nat.{ℕ, ◌-◌, ◌*◌, ◌≤◌, ◌<◌}
use mathlib.Core.Path.{◌≡◌, refl, sym, ap, subst, ◌∙◌}
use mathlib.Core.Logic.{◌⊎◌, inl, inr}
use mathlib.Core.Bool.{Bool, true, false, false≢true}
use mathlib.Core.List.{List}
use native.Mathlib.Omega.{arith}
use lib.ListN.{length, take}
use borrow.Author.Tests.{lt-ltb, le-ltb}
use Rattle.lists.proofs.Fronts.{front-none}
use Rattle.rules.specs.Fact.{Fact, fact_of, opposite, Within}
use Rattle.rules.specs.Follows.{follows, clash}
use Rattle.rules.specs.Verdict.{judge, verdict}
use Rattle.rules.proofs.Facts.{opposite-of}
use Rattle.records.specs.declared.Record.{Record}
use Rattle.records.specs.declared.Refusal.{Refusal}
use Rattle.records.specs.declared.Refusal.TheVariants.{ShortSteps, ClaimsLength, Contradiction}
use Rattle.records.specs.Record.{record_at}
use Rattle.records.specs.Pieces.{stated}
use Rattle.records.specs.Facts.{saying, facts}
use Rattle.records.specs.Kept.{picked}
use Rattle.records.specs.Marked.{marked}
use Rattle.records.specs.Check.{book_check, claims_check}
use Rattle.records.proofs.Accepted.{accepted, accepted-claims, kind-of}
use Rattle.closure.specs.Void.{void_of}
use Rattle.closure.specs.Stored.{edge_bit}
use Rattle.closure.specs.Closed.{Holds}
use Rattle.contradiction.specs.Opened.{Opened}
use Rattle.contradiction.specs.Settled.{Clashed}
use Rattle.contradiction.proofs.SettlingLaws.{settleable}
use Rattle.verdicts.specs.Answers.{answer_byte}
use Rattle.verdicts.specs.declared.Answer.{Answer}
use Rattle.verdicts.specs.declared.Answer.TheVariants.{Follows, Denied, Open}
use Rattle.closure.specs.Counted.{MarksOf}
use Rattle.claims.proofs.Counts.{own-count}
use Rattle.outcomes.specs.Call.{by_runs}
use Rattle.outcomes.specs.One.{refuse_if}
use Rattle.answers.proofs.Judges.{refuses, accepts}
use Rattle.chain_format.specs.Citing.{citing}
use Rattle.chain_format.specs.Twice.{Differ}
use Rattle.chain_check.specs.Call.{asked}
use Rattle.chain_format.proofs.Passing.{all_none}
use Rattle.chain_check.proofs.Asking.{asked-refused, asked-misfit, asked-claim, asked-runs, passes-chain}
use Rattle.chain_writing.specs.declared.Chain.{Chain}
use Rattle.derivations.proofs.Cuts.{cut-behind, cut-chain, cut_twice}
use Rattle.derivations.specs.Shown.{Writes}
use Rattle.derivations.specs.Found.{Ground, Chained}
use Rattle.chain_writing.specs.Call.{answer_for, answer_to, reply_of, reply, shown, Written, Answering, Judged}

-- ---- the answer

-- the byte of an answer is the verdict
pub answered_byte : (n : ℕ) (claim : Record) (s : List ℕ) → answer_byte (answer_to n claim s) ≡ verdict (marked s) n (facts (picked s claim)) (saying claim)
unfolding answer_to verdict answer_for judge
answered_byte n claim s = pick (follows (marked s) n (facts (picked s claim)) (saying claim)) (follows (marked s) n (facts (picked s claim)) (opposite (saying claim)))
  where
    pick : (x y : Bool) → answer_byte (answer_for x y) ≡ judge x y
    pick true y = refl
    pick false true = refl
    pick false false = refl

module _ (n : ℕ) (claim : Record) (s c : List ℕ) (room : 164000 ≤ length c) where
  abbrev Fol : Fact → Bool
  Fol f = follows (marked s) n (facts (picked s claim)) f

  abbrev Kind : Bool → Bool → Type 0
  Kind x y = (Fol (saying claim) ≡ x) × (Fol (opposite (saying claim)) ≡ y)

  pub is-answer : (x y : Bool) → Kind x y → answer_for x y ≡ answer_to n claim s
  unfolding answer_to
  is-answer x y k = sym (rw (k.0, k.1) refl)

  -- steps that show the claim or its opposite
  pub spoken :
      (a : Answer) → a ≡ answer_to n claim s → {c' : List ℕ} {r : ℕ} (g : Fact) → (g ≡ saying claim) ⊎ (g ≡ opposite (saying claim)) → Writes n (citing claim s) g 12285 c 0 c' r → Differ c' 0 r
      → shown (Ok a) ≡ true → Answering n claim s c (record { reply = Ok a; steps = r }) c'
  spoken a q {c'} {r} g w W D t =
      let l = W.more in
      let h : r ≤ 12285 = W.few in
      record {
        reply-is = ap Ok q;
        steps-are = λ z. (omega arith, omega arith, cut-chain c c' r (omega arith) W.edited n (citing claim s) (saying claim) g w (omega arith) (omega arith) (W.ok (all_none n (citing claim s) c)) W.shown, cut_twice c c' r (omega arith) W.edited D);
        none = λ z. absurd (false≢true (sym z ∙ t));
        behind = cut-behind c c' r (omega arith) W.edited;
      }

  pub says-follows : {c' : List ℕ} {m : ℕ} → 0 < m → Chained n claim s (saying claim) c c' m → Answering n claim s c (record { reply = Ok Follows; steps = m }) c'
  unfolding answer_for
  says-follows l C = let p = C.some l in spoken Follows (is-answer true _ (p.1, refl)) (saying claim) (inl refl) p.0 p.2 refl

  module _ (t : stated claim ≡ true) {c₁ : List ℕ} {m : ℕ} (none : m ≤ 0) (C : Chained n claim s (saying claim) c c₁ m) where
    first-none : (c₁ ≡ c) × (Fol (saying claim) ≡ false)
    first-none = C.none (omega arith)

    other-is : fact_of (5 - claim.kind) claim.a claim.b ≡ opposite (saying claim)
    other-is = let z = kind-of claim t in opposite-of claim.kind claim.a claim.b z.0 z.1

    pub says-denied :
        {c₂ : List ℕ} {k : ℕ} → 0 < k → Chained n claim s (fact_of (5 - claim.kind) claim.a claim.b) c₁ c₂ k
        → Answering n claim s c (record { reply = Ok Denied; steps = k }) c₂
    unfolding answer_for
    says-denied {c₂} {k} l D =
        let p = D.some l in
        let W = subst (λ (x : List ℕ). Writes n (citing claim s) (fact_of (5 - claim.kind) claim.a claim.b) 12285 x 0 c₂ k) first-none.0 p.0 in
        spoken Denied (is-answer false true (first-none.1, ap Fol (sym other-is) ∙ p.1)) (fact_of (5 - claim.kind) claim.a claim.b) (inr other-is) W p.2 refl

    pub says-open :
        {c₂ : List ℕ} {k : ℕ} → k ≤ 0 → Chained n claim s (fact_of (5 - claim.kind) claim.a claim.b) c₁ c₂ k
        → Answering n claim s c (record { reply = Ok Open; steps = 0 }) c₂
    unfolding answer_for
    says-open {c₂} {k} l D =
        let p = D.none (omega arith) in
        record {
          reply-is = ap Ok (is-answer false false (first-none.1, ap Fol (sym other-is) ∙ p.1));
          steps-are = λ z. absurd (false≢true z);
          none = λ z. refl;
          behind = (p.0 ∙ first-none.0) ∙ sym (front-none c);
        }

-- ---- the rows

pub ground-of :
    (n : ℕ) (claim : Record) (s voids run : List ℕ) {e d t : List ℕ} → book_check s ≡ Ok n → MarksOf s voids → run ≡ picked s claim
    → Opened (void_of voids) n (facts run) d t false → Holds n e (edge_bit n (facts run)) → Ground n claim s voids e d t
ground-of n claim s voids run sound M q O E =
    record {
      few = (accepted s n sound).few;
      bounded = (settleable s n sound).bounded;
      void = M;
      free = rw (M.1, q) at O.is;
      steps = rw q at E;
      parts = rw q at O.parts;
      toward = rw (M.1, q) at O.toward;
    }

pub by-marks :
    {n : ℕ} (s voids run : List ℕ) {d t : List ℕ} → MarksOf s voids → Opened (void_of voids) n (facts run) d t false → Opened (marked s) n (facts run) d t false
by-marks s voids run M O = rw M.1 at O

module _ (n : ℕ) (claim : Record) (s c : List ℕ) (sound : book_check s ≡ Ok n) where
  silent : (o : Reply) → shown o ≡ false → (r : Chain) → r ≡ record { reply = o; steps = 0 } → o ≡ reply_of claim s (by_runs s n) → Judged n claim s c r c
  silent o t r q e = rw q (record { reply-is = e; steps-are = λ z. absurd (false≢true (sym t ∙ z)); accepted = λ z. absurd (false≢true (sym t ∙ z)); none = λ z. refl; behind = sym (front-none c) })

  pub judged-clash : (place : ℕ) (r : Chain) → r ≡ record { reply = refused_at Contradiction place; steps = 0 } → Clashed (marked s) n s place → Judged n claim s c r c
  unfolding reply_of
  judged-clash place r q C = silent (refused_at Contradiction place) refl r q (ap (reply_of claim s) (refuses s n (own-count sound) place C))

  pub judged-free :
      {d t : List ℕ} → Opened (marked s) n (facts s) d t false → (r : Chain) {c' : List ℕ}
      → Answering n claim s c r c' → Judged n claim s c r c'
  unfolding reply_of
  judged-free O r A =
      let a = accepts s n (own-count sound) _ _ O.is refl refl in
      record {
        reply-is = A.reply-is ∙ ap (reply_of claim s) a;
        steps-are = A.steps-are;
        accepted = λ z. (_, _, sym a);
        none = A.none;
        behind = A.behind;
      }

-- ---- the call

module _ (s cs c : List ℕ) where
  refused : (x : Refusal) (i : ℕ) (r : Chain) → r ≡ record { reply = refused_at x i; steps = 0 } → refused_at x i ≡ reply s cs (length c) → Written s cs c r c
  refused x i r q e = rw q (record { reply-is = e; steps-are = λ z. absurd (false≢true z); none = λ z. refl; behind = sym (front-none c) })

  pub call-short : (r : Chain) → r ≡ record { reply = refused_at ShortSteps 0; steps = 0 } → length c < 164000 → Written s cs c r c
  unfolding reply reply_of refuse_if
  call-short r q l = refused ShortSteps 0 r q (rw (lt-ltb (length c) 164000 l, refuse_if))

  module _ (room : 164000 ≤ length c) where
    by-asked : reply_of (record_at cs 0) s (asked s cs) ≡ reply s cs (length c)
    unfolding reply refuse_if
    by-asked = rw (le-ltb (length c) 164000 room, refuse_if)

    refused-by : (x : Refusal) (i : ℕ) (r : Chain) → r ≡ record { reply = refused_at x i; steps = 0 } → refused_at x i ≡ asked s cs → Written s cs c r c
    unfolding reply_of
    refused-by x i r q e = refused x i r q (ap (reply_of (record_at cs 0) s) e ∙ by-asked)

    pub call-book : (x : Refusal) (i : ℕ) (r : Chain) → r ≡ record { reply = refused_at x i; steps = 0 } → book_check s ≡ refused_at x i → Written s cs c r c
    call-book x i r q e = refused-by x i r q (asked-refused s cs c x i (sym e))

    module _ (n : ℕ) (sound : book_check s ≡ Ok n) where
      pub call-misfit : (r : Chain) → r ≡ record { reply = refused_at ClaimsLength 0; steps = 0 } → (length cs ≡ 6 → ⊥) → Written s cs c r c
      call-misfit r q l = refused-by ClaimsLength 0 r q (asked-misfit s cs c n sound l)

      module _ (six : length cs ≡ 6) where
        pub call-claim : (x : Refusal) (i : ℕ) (r : Chain) → r ≡ record { reply = refused_at x i; steps = 0 } → claims_check n cs ≡ refused_at x i → Written s cs c r c
        call-claim x i r q e = refused-by x i r q (asked-claim s cs c n sound six x i (sym e))

        pub call-judged : claims_check n cs ≡ Ok tt → (r : Chain) {c' : List ℕ} → Judged n (record_at cs 0) s c r c' → Written s cs c r c'
        call-judged e r {c'} J =
            record {
              reply-is = J.reply-is ∙ ap (reply_of (record_at cs 0) s) (asked-runs s cs c n sound six (sym e)) ∙ by-asked;
              steps-are = λ z.
                  let p = J.steps-are z in
                  let q = J.accepted z in
                  record { some = p.0; few = p.1; written-passes = sym (passes-chain s cs (take (10 * r.steps) c') n sound six e q.0 q.1 q.2) ∙ p.2; none-twice = p.3 };
              none = J.none;
              behind = J.behind;
            }

pub free-by : (n : ℕ) (s voids : List ℕ) → MarksOf s voids → false ≡ clash (marked s) n (facts s) → false ≡ clash (void_of voids) n (facts s)
free-by n s voids M e = rw M.1 e

-- the one claim of an accepted list
pub claim-ok : (n : ℕ) (cs : List ℕ) → claims_check n cs ≡ Ok tt → length cs ≡ 6 → (r : Record) → r ≡ record_at cs 0 → (stated r ≡ true) × Within n (saying r)
claim-ok n cs e l r q =
    let A = accepted-claims n cs e in
    rw q (A.kinds 0 (omega arith), A.within 0 (omega arith))
