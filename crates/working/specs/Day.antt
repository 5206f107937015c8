-- A day: any list of additions, withdrawals and claims, by the standing run alone, and the same by the promises of the calls. Assumes nothing.
use Rattle.outcomes.specs.Accepted.{Outcome}
use Rattle.std.specs.Prelude.{ℕ, ◌+◌, ◌*◌, List, [], ◌∷◌, ◌++◌, take, drop}
use Rattle.records.specs.Check.{book_check}
use Rattle.working.specs.declared.keeping.Working.{Working}
use Rattle.working.specs.declared.keeping.Asked.{Asked}
use Rattle.outcomes.specs.One.{by_one}
use Rattle.working.specs.Rows.{answer_of}
use Rattle.working.specs.Kept.{Added, Withdrawn, Answered}
use Rattle.working.specs.Sequence.{add_to, withdraw_from, chosen}

pub data Operation : Type 0 where
  add : List ℕ → Operation
  withdraw : ℕ → Operation
  ask : List ℕ → Operation

-- what a call comes to, and the answer byte, 0 but for an answered claim
pub data Reply : Type 0 where
  reply : Outcome → ℕ → Reply

-- ---- by the run that stands

unfoldable pub after : Operation → List ℕ → List ℕ
after (add a) s = chosen (add_to s a) (s ++ a) s
after (withdraw i) s = chosen (withdraw_from s i) (take (6 * i) s ++ drop (6 * i + 6) s) s
after (ask c) s = s

unfoldable pub reply_to : Operation → List ℕ → Reply
reply_to (add a) s = reply (add_to s a) 0
reply_to (withdraw i) s = reply (withdraw_from s i) 0
reply_to (ask c) s = reply (by_one s c (book_check s)) (answer_of s c (by_one s c (book_check s)))

unfoldable pub day : List Operation → List ℕ → List ℕ
day [] s = s
day (x ∷ xs) s = day xs (after x s)

unfoldable pub replies : List Operation → List ℕ → List Reply
replies [] s = []
replies (x ∷ xs) s = reply_to x s ∷ replies xs (after x s)

-- ---- by the calls: each takes the counts and the area that the one before it left

pub data Played : Working → List ℕ → List Operation → List Reply → Working → List ℕ → Type 0 where
  over : {w : Working} {area : List ℕ} → Played w area [] [] w area
  adds : {w w₁ w₂ : Working} {area area₁ area₂ a : List ℕ} {xs : List Operation} {rs : List Reply} (r : Outcome)
      → Added w area a r w₁ area₁ → Played w₁ area₁ xs rs w₂ area₂ → Played w area (add a ∷ xs) (reply r 0 ∷ rs) w₂ area₂
  withdraws : {w w₁ w₂ : Working} {area area₁ area₂ : List ℕ} {i : ℕ} {xs : List Operation} {rs : List Reply} (r : Outcome)
      → Withdrawn w area i r w₁ area₁ → Played w₁ area₁ xs rs w₂ area₂ → Played w area (withdraw i ∷ xs) (reply r 0 ∷ rs) w₂ area₂
  asks : {w w₂ : Working} {area area₂ c : List ℕ} {xs : List Operation} {rs : List Reply} (r : Asked)
      → Answered w area c r → Played w area xs rs w₂ area₂ → Played w area (ask c ∷ xs) (reply r.outcome r.answer ∷ rs) w₂ area₂
