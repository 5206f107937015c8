-- What the writer of chains leaves, for a buffer of 16,400 steps. Assumes nothing.
use Rattle.std.specs.Prelude.{Err, Ok}
use Rattle.records.specs.Refused.{BookCheck}
use Rattle.outcomes.specs.Accepted.{Outcome}
use Prim.Native.Nat.{ℕ, ◌≤◌}
use mathlib.Core.Path.{◌≡◌, ◌∙◌, ap}
use mathlib.Core.Bool.{not}
use mathlib.Core.List.{List}
use native.Mathlib.Omega.{arith}
use lib.Dec.{eqb}
use lib.ListN.{length}
use borrow.Author.Tests.{eqb-true}
use Rattle.lists.proofs.Bools.{Known, is_true, is_false, known}
use Rattle.records.specs.declared.Record.{Record}
use Rattle.records.specs.Record.{record_at}
use Rattle.records.specs.Check.{book_check, claims_check}
use Rattle.records.specs.declared.Refusal.{Refusal}
use Rattle.records.specs.declared.Refusal.TheVariants.{ClaimsLength}
use Rattle.verdicts.specs.declared.Answer.{Answer}
use Rattle.outcomes.specs.Call.{by_claims}
use Rattle.outcomes.specs.One.{refuse_if, by_one}
use Rattle.chain_check.specs.Call.{asked}
use Rattle.chain_writing.specs.Call.{reply_of, reply, shown, Written}
use Rattle.chain_writing.specs.declared.Chain.{Chain}
use Rattle.chain_pages.specs.Verified.{said}
use Rattle.chain_pages.specs.Why.{Whole, Shown}

-- a claim that is answered is six bytes
sized : (claim : Record) (s : List ℕ) (n : ℕ) (e : Refusal) (o : Outcome) (a : Answer) → reply_of claim s (refuse_if (not (eqb n 6)) e o) ≡ Ok a → n ≡ 6
unfolding refuse_if reply_of
sized claim s n e o a is = go (known (eqb n 6)) where
  go : Known (eqb n 6) → n ≡ 6
  go (is_true h) = eqb-true n 6 h
  go (is_false h) = let z : ◌≡◌ {A = ℕ} 0 1 = cc (rw h at is) in absurd (omega arith)

by-book : (claim : Record) (s cs : List ℕ) (b : BookCheck) (a : Answer) → reply_of claim s (by_one s cs b) ≡ Ok a → length cs ≡ 6
unfolding by_one reply_of
by-book claim s cs (Err r) a is = let z : ◌≡◌ {A = ℕ} 0 1 = cc in absurd (omega arith)
by-book claim s cs (Ok n) a is = sized claim s (length cs) ClaimsLength (by_claims s n (claims_check n cs)) a is

pub whole : (s cs : List ℕ) → Whole cs (said s cs)
unfolding said asked
whole s cs a is = by-book (record_at cs 0) s cs (book_check s) a is

-- with room for 16,400 steps row 15 does not refuse
roomy : (s cs : List ℕ) (n : ℕ) → n ≡ 164000 → reply s cs n ≡ said s cs
unfolding reply said refuse_if
roomy s cs n is = rw is

-- what the call leaves
pub chain-shown : {s cs c : List ℕ} {r : Chain} {c' : List ℕ} → Written s cs c r c' → length c ≡ 164000 → length c' ≡ 164000 → Shown s cs r c'
chain-shown {s} {cs} {c} {r} {c'} w room left =
    record {
      room = left;
      reply-is = same;
      few = go (known (shown r.reply));
      behind = record { passing = λ h. (w.steps-are (ap shown same ∙ h)).written-passes; none = λ h. rw (w.none (ap shown same ∙ h)) };
    }
  where
    same : r.reply ≡ said s cs
    same = w.reply-is ∙ roomy s cs (length c) room

    go : Known (shown r.reply) → r.steps ≤ 16400
    go (is_true h) = (w.steps-are h).few
    go (is_false h) = omega (arith, w.none h)
