-- The call with buffers that are long enough is the fresh call. Assumes nothing.
use Rattle.std.specs.Prelude.{Err, Ok}
use Rattle.records.specs.Refused.{refused_at}
use Rattle.outcomes.specs.Accepted.{Outcome, accepted_with}
use mathlib.Core.Path.{◌≡◌, refl, ap, ap₂, subst, ◌∙◌}
use mathlib.Core.Bool.{false}
use mathlib.Core.List.{List, []}
use Prim.Native.Nat.{ℕ, ◌≤◌}
use native.Mathlib.Omega.{arith}
use borrow.Author.Tests.{le-ltb}
use lib.ListN.{length, replicate, length-replicate}
use Rattle.records.specs.Record.{records}
use Rattle.records.specs.Refusal.{scan}
use Rattle.records.specs.Check.{book_check, claims_check}
use Rattle.records.specs.declared.Refusal.{Refusal}
use Rattle.outcomes.specs.Lent.{Lent, lent, short_lent}
use Rattle.outcomes.specs.Call.{by_runs, by_claims, by_book, outcome}
use Rattle.outcomes.specs.Fresh.{fresh_call, uncounted}
use Rattle.outcomes.proofs.Outcomes.{Told, told}

pub long-lent : (cs a b c d e : List ℕ) → length a ≡ 2560 → length b ≡ 1280 → length c ≡ 8192 → length d ≡ 2048 → records cs ≤ length e → short_lent cs (lent a b c d e) ≡ false
unfolding short_lent
long-lent cs a b c d e p q r t u =
    rw (le-ltb (length a) 2560 (omega arith), le-ltb (length b) 1280 (omega arith), le-ltb (length c) 8192 (omega arith), le-ltb (length d) 2048 (omega arith), le-ltb (length e) (records cs) u) refl

pub fresh-is : (s cs : List ℕ) (l : Lent) → short_lent cs l ≡ false → outcome s cs l ≡ fresh_call s cs
unfolding outcome fresh_call
fresh-is s cs l e = rw (e, outcome) refl

-- parts of document 01's lengths are long enough
pub roomy-long : short_lent [] (lent (replicate 2560 0) (replicate 1280 0) (replicate 8192 0) (replicate 2048 0) []) ≡ false
roomy-long =
    long-lent [] (replicate 2560 0) (replicate 1280 0) (replicate 8192 0) (replicate 2048 0) []
    (length-replicate {A = ℕ} 2560 0) (length-replicate {A = ℕ} 1280 0) (length-replicate {A = ℕ} 8192 0) (length-replicate {A = ℕ} 2048 0) (omega arith)

-- a run that the fresh call accepts passes the rows of books
pub fresh-sound : (s : List ℕ) {n v h : ℕ} → fresh_call s [] ≡ accepted_with n v h → book_check s ≡ Ok n
fresh-sound s {n} {v} {h} e =
    let l = lent (replicate 2560 0) (replicate 1280 0) (replicate 8192 0) (replicate 2048 0) [] in
    let t : Told s [] l (accepted_with n v h) = subst (Told s [] l) (fresh-is s [] l roomy-long ∙ e) (told s [] l) in
    t.0.sound

-- the fresh call without claims, by the rows of books
pub fresh-refused : (s : List ℕ) {r : Refusal} {i : ℕ} → book_check s ≡ refused_at r i → fresh_call s [] ≡ refused_at r i
unfolding fresh_call by_book
fresh-refused s e = rw e

pub fresh-runs : (s : List ℕ) (n : ℕ) → book_check s ≡ Ok n → fresh_call s [] ≡ by_runs s n
unfolding fresh_call by_book by_claims claims_check scan
fresh-runs s n e = rw e

-- an outcome, by what it says without counts
pub counts-refused : (o : Outcome) {r : Refusal} {i : ℕ} → uncounted o ≡ refused_at r i → o ≡ refused_at r i
unfolding uncounted
counts-refused (Err x) {r} {i} e = let a : x.refusal ≡ r = cc in let b : x.place ≡ i = cc in ap₂ refused_at a b
counts-refused (Ok m) e = let z : ◌≡◌ {A = ℕ} 0 1 = cc in absurd (omega arith)

pub counts-accepted : (o : Outcome) {n : ℕ} → uncounted o ≡ Ok n → (v : ℕ) × (h : ℕ) × (o ≡ accepted_with n v h)
unfolding uncounted
counts-accepted (Err x) e = let z : ◌≡◌ {A = ℕ} 0 1 = cc in absurd (omega arith)
counts-accepted (Ok m) {n} e = let a : m.pieces ≡ n = cc in (m.nodes, m.shadows, ap (λ (k : ℕ). accepted_with k m.nodes m.shadows) a)

-- a book that the fresh call accepts without counts passes the rows of books
pub uncounted-sound : (s : List ℕ) {n : ℕ} → uncounted (fresh_call s []) ≡ Ok n → book_check s ≡ Ok n
uncounted-sound s e = fresh-sound s (counts-accepted (fresh_call s []) e).2
