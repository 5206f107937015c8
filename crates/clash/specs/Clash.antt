-- The chain behind a contradiction: what its steps may cite, when it passes, and what the writer of one comes to. Assumes nothing.
use Rattle.records.specs.Refused.{refused_at}
use Rattle.outcomes.specs.Accepted.{Outcome}
use Rattle.clash.specs.Reply.{Reply}
use Rattle.std.specs.Prelude.{ℕ, ◌-◌, ◌*◌, ◌≤◌, ◌≡◌, Bool, true, false, ◌&&◌, ◌||◌, List, [], eqb, ltb, length, take, Err, Ok}
use Rattle.lists.specs.Tab.{tab}
use Rattle.lists.specs.Front.{front}
use Rattle.rules.specs.Fact.{Fact, opposite}
use Rattle.records.specs.declared.Record.{Record}
use Rattle.records.specs.declared.Refusal.TheVariants.{ShortSteps}
use Rattle.records.specs.Record.{record_at, records}
use Rattle.records.specs.Refusal.{refusal_number}
use Rattle.records.specs.Pieces.{marking, piece_count}
use Rattle.records.specs.Facts.{saying}
use Rattle.outcomes.specs.Fresh.{fresh_call}
use Rattle.outcomes.specs.One.{refuse_if}
use Rattle.chain_format.specs.Step.{step_at, steps, shows}
use Rattle.chain_format.specs.Citing.{Cited, none, cited_of}
use Rattle.chain_format.specs.Chain.{chain_ok}
use Rattle.chain_format.specs.Twice.{NoneTwice}
use Rattle.clash.specs.declared.Clash.{Clash}

-- ---- the check, of a book and lent steps, whoever wrote them

-- what record i states
abbrev pub fact_at : List ℕ → ℕ → Fact
fact_at s i = saying (record_at s i)

-- a record as a claim that picks all facts
abbrev pub unrestricted : Record → Record
unrestricted r = record { kind = r.kind; origin = 0; a = r.a; b = r.b }

-- what a step may cite of record j: what it states where it stands before record i, and its mark wherever it stands
unfoldable pub cited_at : List ℕ → ℕ → ℕ → Cited
cited_at s i j = elim (ltb j i || marking (record_at s j)) [ true ↦ cited_of (unrestricted (record_at s i)) (record_at s j) | false ↦ none ]

unfoldable pub cited_before : List ℕ → ℕ → List Cited
cited_before s i = tab (cited_at s i) 0 (records s)

-- a chain whose last step shows the opposite of what record i states
unfoldable pub clash_ok : List ℕ → ℕ → List ℕ → Bool
clash_ok s i c = chain_ok (piece_count s) (cited_before s i) (fact_at s i) c && shows (step_at c (steps c - 1)) (opposite (fact_at s i))

-- steps pass only on a book that 14 refuses, at its place
unfoldable pub passing : List ℕ → List ℕ → Outcome → Bool
passing s c (Ok n) = false
passing s c (Err r) = eqb (refusal_number r.refusal) 14 && clash_ok s r.place c

unfoldable pub passes : List ℕ → List ℕ → Bool
passes s c = passing s c (fresh_call s [])

-- ---- the writer: the reply by an equation; of the steps, which of several chains is written is free

unfoldable pub reply_of : Outcome → Reply
reply_of (Ok n) = (Ok tt)
reply_of (Err r) = Err r

-- 15 for a buffer below 16,400 steps, then the rows of a book
unfoldable pub reply : List ℕ → ℕ → Reply
reply s room = reply_of (refuse_if (ltb room 164000) ShortSteps (fresh_call s []))

-- 14 comes with steps
abbrev pub shown : Reply → Bool
shown (Ok _) = false
shown (Err r) = eqb (refusal_number r.refusal) 14

-- the first r steps of c', 1 to 16,400 of them, pass, and no two of them show the same
pub record Steps (s c' : List ℕ) (r : ℕ) : Type 0 where
  pub some : 1 ≤ r
  pub few : r ≤ 16400
  pub written-passes : passes s (take (10 * r) c') ≡ true
  pub none-twice : NoneTwice (take (10 * r) c')

pub record Written (s c : List ℕ) (r : Clash) (c' : List ℕ) : Type 0 where
  pub reply-is : r.reply ≡ reply s (length c)
  pub steps-are : shown r.reply ≡ true → Steps s c' r.steps
  pub none : shown r.reply ≡ false → r.steps ≡ 0
  pub behind : c' ≡ front (take (10 * r.steps) c') c
