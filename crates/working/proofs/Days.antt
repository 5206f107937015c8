-- After any list of calls from a start the state and the area stand for the records that a plain list would hold, and each reply is the fresh call's
-- on the records then standing. Assumes nothing.
use Rattle.outcomes.specs.Accepted.{Outcome, accepted_with}
use mathlib.Core.Path.{◌≡◌, refl, sym, ap, ap₂, ◌∙◌}
use mathlib.Core.List.{List, [], ◌∷◌}
use Prim.Native.Nat.{ℕ}
use native.Mathlib.Omega.{arith}
use lib.ListN.{replicate, length-replicate}
use Rattle.records.specs.Check.{book_check, claims_check}
use Rattle.records.specs.Refusal.{scan}
use Rattle.outcomes.specs.Lent.{lent}
use Rattle.answers.proofs.Empty.{empty-outcome}
use Rattle.working.specs.declared.keeping.Working.{Working}
use Rattle.working.specs.declared.keeping.Asked.{Asked}
use Rattle.outcomes.specs.Fresh.{fresh_call}
use Rattle.outcomes.specs.One.{by_one}
use Rattle.working.specs.Rows.{answer_of}
use Rattle.working.specs.Kept.{Answered}
use Rattle.working.specs.Sequence.{Stands}
use Rattle.working.specs.Day.{Operation, Reply, reply, after, reply_to, day, replies, Played, over, adds, withdraws, asks}
use Rattle.working.specs.WholeDay.{WholeDay}
use Rattle.answers.proofs.Fresh.{long-lent, fresh-is}
use Rattle.working.proofs.Settling.{ask-passes}
use Rattle.working.proofs.Sequences.{added, withdrawn, started}

-- a claim of any length
answered : (w : Working) (area s c : List ℕ) → Stands w area s → (r : Asked) → Answered w area c r → reply r.outcome r.answer ≡ reply (by_one s c (book_check s)) (answer_of s c (by_one s c (book_check s)))
answered w area s c S r D =
    let e : r.outcome ≡ by_one s c (book_check s) = D.0 ∙ (ask-passes area c w.records S.long S.few ∙ ap (λ (x : List ℕ). by_one x c (book_check x)) S.run_is) in
    ap₂ reply e (D.1 ∙ ap₂ (λ (x : List ℕ) (o : Outcome). answer_of x c o) S.run_is e)

pub all-day : {w w' : Working} {area area' s : List ℕ} {xs : List Operation} {rs : List Reply} → Stands w area s → Played w area xs rs w' area' → (rs ≡ replies xs s) × Stands w' area' (day xs s)
unfolding day replies after reply_to
all-day S over = (refl, S)
all-day {w = w} {area = area} {s = s} S (adds {a = a} r D P) =
    let n = added w area s a S r _ _ D in
    let rest = all-day n.1 P in
    (ap₂ (λ (o : Outcome) (ys : List Reply). reply o 0 ∷ ys) n.0 rest.0, rest.1)
all-day {w = w} {area = area} {s = s} S (withdraws {i = i} r D P) =
    let n = withdrawn w area s i S r _ _ D in
    let rest = all-day n.1 P in
    (ap₂ (λ (o : Outcome) (ys : List Reply). reply o 0 ∷ ys) n.0 rest.0, rest.1)
all-day {w = w} {area = area} {s = s} S (asks {c = c} r D P) =
    let rest = all-day S P in
    (ap₂ (λ (x : Reply) (ys : List Reply). x ∷ ys) (answered w area s c S r D) rest.0, rest.1)

-- a fresh call on no records accepts piece 0 alone
no-records : fresh_call [] [] ≡ accepted_with 1 1 0
unfolding claims_check scan
no-records =
    let zeros : ℕ → List ℕ = λ n. replicate n 0 in
    let l = lent (zeros 2560) (zeros 1280) (zeros 8192) (zeros 2048) [] in
    let long = long-lent [] (zeros 2560) (zeros 1280) (zeros 8192) (zeros 2048) [] (length-replicate {A = ℕ} 2560 0) (length-replicate {A = ℕ} 1280 0) (length-replicate {A = ℕ} 8192 0) (length-replicate {A = ℕ} 2048 0) (omega arith) in
    sym (fresh-is [] [] l long) ∙ empty-outcome [] l long refl

-- from a start
pub whole-day : WholeDay
whole-day area w w' area₁ area' xs rs r long D P = all-day (started area r w area₁ D long 1 1 0 no-records) P
