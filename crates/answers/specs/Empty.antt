-- The empty book is the book with piece 0 alone: its outcome, its index and its answers. Assumes nothing.
use Rattle.outcomes.specs.Accepted.{Outcome, accepted_with}
use Rattle.std.specs.Prelude.{ℕ, ◌≡◌, false, List, [], ◌∷◌, ◌++◌, replicate, Ok}
use Rattle.lists.specs.Front.{front}
use Rattle.records.specs.Check.{claims_check}
use Rattle.records.specs.Claimed.{answers_to}
use Rattle.outcomes.specs.Lent.{Lent, lent, short_lent}
use Rattle.outcomes.specs.Call.{outcome, left}
use Rattle.outcomes.specs.Outcome.{number}
use Rattle.answers.specs.Examples.{six}

-- one node: parentheses 10, no mark, no shadow, piece 0 at place 0
abbrev pub alone : Lent → List ℕ → Lent
alone l answers =
    lent (front (1 ∷ replicate 2559 0) l.parens) (front (replicate 1280 0) l.marks) (front (replicate 8192 0) l.shadows) (front (replicate 2048 0) l.places)
    (front answers l.answers)

-- accepted with 1 piece, 1 node and no shadow, with all claims and buffers that fit
abbrev pub EmptyOutcome : Type 0
EmptyOutcome = (cs : List ℕ) (l : Lent) → short_lent cs l ≡ false → claims_check 1 cs ≡ Ok tt → outcome [] cs l ≡ accepted_with 1 1 0

abbrev pub EmptyLeft : Type 0
EmptyLeft = (cs : List ℕ) (l : Lent) → short_lent cs l ≡ false → claims_check 1 cs ≡ Ok tt → left [] cs l (outcome [] cs l) ≡ alone l (answers_to [] 1 cs)

-- PART 0 0 and MEETS 0 0 follow, and their opposites are denied
abbrev pub EmptyAnswers : Type 0
EmptyAnswers = answers_to [] 1 (six 1 0 0 ++ six 2 0 0 ++ six 3 0 0 ++ six 4 0 0) ≡ 1 ∷ 2 ∷ 1 ∷ 2 ∷ []

-- no outcome has number 2
abbrev pub NeverTwo : Type 0
NeverTwo = (o : Outcome) → number o ≡ 2 → ⊥
