-- What the writer of chains comes to: the reply by an equation; of the steps, which of several chains is written is free. Assumes nothing.
use Rattle.records.specs.Refused.{refused_at}
use Rattle.outcomes.specs.Accepted.{Outcome, accepted_with}
use Rattle.chain_writing.specs.Reply.{Reply}
use Rattle.std.specs.Prelude.{ℕ, ◌*◌, ◌≤◌, ◌≡◌, Bool, true, false, List, ltb, length, take, Err, Ok}
use Rattle.lists.specs.Front.{front}
use Rattle.rules.specs.Fact.{opposite}
use Rattle.rules.specs.Follows.{follows}
use Rattle.records.specs.declared.Record.{Record}
use Rattle.records.specs.declared.Refusal.TheVariants.{ShortSteps}
use Rattle.records.specs.Record.{record_at}
use Rattle.records.specs.Facts.{saying, facts}
use Rattle.records.specs.Kept.{picked}
use Rattle.records.specs.Marked.{marked}
use Rattle.verdicts.specs.declared.Answer.{Answer}
use Rattle.verdicts.specs.declared.Answer.TheVariants.{Follows, Denied, Open}
use Rattle.outcomes.specs.Call.{by_runs}
use Rattle.outcomes.specs.One.{refuse_if}
use Rattle.chain_format.specs.Citing.{citing}
use Rattle.chain_format.specs.Chain.{chain_ok}
use Rattle.chain_format.specs.Twice.{NoneTwice}
use Rattle.chain_check.specs.Call.{asked, passes}
use Rattle.chain_writing.specs.declared.Chain.{Chain}

-- ---- the reply

-- by whether the claim follows and whether its opposite does; its byte is the verdict (`answered_byte` in `Replies`)
unfoldable pub answer_for : Bool → Bool → Answer
answer_for true b = Follows
answer_for false true = Denied
answer_for false false = Open

-- in a book of n pieces, from the facts that the claim picks and all marks
unfoldable pub answer_to : ℕ → Record → List ℕ → Answer
answer_to n claim s =
    answer_for (follows (marked s) n (facts (picked s claim)) (saying claim)) (follows (marked s) n (facts (picked s claim)) (opposite (saying claim)))

unfoldable pub reply_of : Record → List ℕ → Outcome → Reply
reply_of claim s (Err r) = Err r
reply_of claim s (Ok n) = Ok (answer_to n.pieces claim s)

-- 15 for a buffer below 16,400 steps, then the rows of a book and its one claim
unfoldable pub reply : List ℕ → List ℕ → ℕ → Reply
reply s cs room = reply_of (record_at cs 0) s (refuse_if (ltb room 164000) ShortSteps (asked s cs))

-- FOLLOWS and DENIED come with steps
abbrev pub shown : Reply → Bool
shown (Ok Follows) = true
shown (Ok Denied) = true
shown (Ok Open) = false
shown (Err r) = false

-- ---- the steps

-- the first r steps of c', 1 to 16,400 of them, pass, and no two of them show the same
pub record Steps (s cs c' : List ℕ) (r : ℕ) : Type 0 where
  pub some : 1 ≤ r
  pub few : r ≤ 16400
  pub written-passes : passes s cs (take (10 * r) c') ≡ true
  pub none-twice : NoneTwice (take (10 * r) c')

pub record Written (s cs c : List ℕ) (r : Chain) (c' : List ℕ) : Type 0 where
  pub reply-is : r.reply ≡ reply s cs (length c)
  pub steps-are : shown r.reply ≡ true → Steps s cs c' r.steps
  pub none : shown r.reply ≡ false → r.steps ≡ 0
  pub behind : c' ≡ front (take (10 * r.steps) c') c

-- ---- what the inner functions promise each other

-- the steps behind the answer in a book of n pieces without a contradiction
pub record Answering (n : ℕ) (claim : Record) (s c : List ℕ) (r : Chain) (c' : List ℕ) : Type 0 where
  pub reply-is : r.reply ≡ Ok (answer_to n claim s)
  pub steps-are : shown r.reply ≡ true → (1 ≤ r.steps) × (r.steps ≤ 16400) × (chain_ok n (citing claim s) (saying claim) (take (10 * r.steps) c') ≡ true) × NoneTwice (take (10 * r.steps) c')
  pub none : shown r.reply ≡ false → r.steps ≡ 0
  pub behind : c' ≡ front (take (10 * r.steps) c') c

-- behind row 14
pub record Judged (n : ℕ) (claim : Record) (s c : List ℕ) (r : Chain) (c' : List ℕ) : Type 0 where
  pub reply-is : r.reply ≡ reply_of claim s (by_runs s n)
  pub steps-are : shown r.reply ≡ true → (1 ≤ r.steps) × (r.steps ≤ 16400) × (chain_ok n (citing claim s) (saying claim) (take (10 * r.steps) c') ≡ true) × NoneTwice (take (10 * r.steps) c')
  pub accepted : shown r.reply ≡ true → (nodes shadows : ℕ) × (by_runs s n ≡ accepted_with n nodes shadows)
  pub none : shown r.reply ≡ false → r.steps ≡ 0
  pub behind : c' ≡ front (take (10 * r.steps) c') c
