-- Document 01's examples over bytes, through every row of the call: its session, its whole books and its edges of the format, in one list.
-- Assumes nothing.
use Rattle.records.specs.Refused.{refused_at}
use Rattle.outcomes.specs.Accepted.{Outcome, accepted_with}
use Rattle.std.specs.Prelude.{ℕ, ◌/◌, ◌%◌, ◌≡◌, false, List, [], ◌∷◌, ◌++◌}
use Rattle.lists.specs.Front.{front}
use Rattle.records.specs.declared.Refusal.TheVariants.{BookLength, Kind, PieceNumber, VoidForm, Repeat, ClaimsLength, ClaimPiece, Contradiction}
use Rattle.outcomes.specs.Lent.{Lent, short_lent}
use Rattle.outcomes.specs.Call.{outcome, left}

-- the six bytes of kind k on a and b, from a cutting sheet or, in a claim, on all facts
abbrev pub six : ℕ → ℕ → ℕ → List ℕ
six k a b = k ∷ 0 ∷ a % 256 ∷ a / 256 ∷ b % 256 ∷ b / 256 ∷ []

-- PART 1 0, PART 2 0, PART 3 1, PART 4 1, PART 4 2, PART 5 4, APART 3 4, MEETS 3 2, NOTPART 2 1
abbrev pub session_book : List ℕ
session_book = six 1 1 0 ++ six 1 2 0 ++ six 1 3 1 ++ six 1 4 1 ++ six 1 4 2 ++ six 1 5 4 ++ six 2 3 4 ++ six 3 3 2 ++ six 4 2 1

-- the ten lines: PART 5 2, PART 2 1, PART 3 2, APART 3 5, APART 1 2, MEETS 2 3, NOTPART 2 4, NOTPART 1 3, NOTPART 0 1, PART 1 2
abbrev pub session_claims : List ℕ
session_claims = six 1 5 2 ++ six 1 2 1 ++ six 1 3 2 ++ six 2 3 5 ++ six 2 1 2 ++ six 3 2 3 ++ six 4 2 4 ++ six 4 1 3 ++ six 4 0 1 ++ six 1 1 2

-- a book and its claims, what the call comes to, and the answers that it writes
pub data Example : Type 0 where
  call : List ℕ → List ℕ → Outcome → List ℕ → Example

unfoldable pub examples : List Example
examples =
    call session_book session_claims (accepted_with 6 7 1) (1 ∷ 2 ∷ 3 ∷ 1 ∷ 2 ∷ 1 ∷ 1 ∷ 1 ∷ 1 ∷ 3 ∷ [])
    ∷ call (six 2 2 2) [] (refused_at Contradiction 0) []
    ∷ call (six 4 1 0) [] (refused_at Contradiction 0) []
    ∷ call (six 2 1 0) [] (refused_at Contradiction 0) []
    ∷ call (six 4 0 1) (six 4 0 1 ++ six 1 1 0) (accepted_with 2 2 0) (1 ∷ 1 ∷ [])
    ∷ call (session_book ++ six 3 5 3) session_claims (refused_at Contradiction 9) []
    ∷ call (six 1 3 3) (six 1 3 3) (accepted_with 4 4 0) (1 ∷ [])
    ∷ call (six 1 0 0) [] (accepted_with 1 1 0) []
    ∷ call [] (six 1 0 0) (accepted_with 1 1 0) (1 ∷ [])
    ∷ call (six 2 3 4 ++ six 2 4 3) (six 3 3 4) (accepted_with 5 5 0) (2 ∷ [])
    ∷ call (six 2 3 4 ++ six 2 3 4) [] (refused_at Repeat 1) []
    ∷ call (six 1 2048 0) [] (refused_at PieceNumber 0) []
    ∷ call (six 1 2047 0) (six 1 2048 0) (refused_at ClaimPiece 0) []
    ∷ call (six 2 3 4 ++ six 5 3 4) [] (refused_at Kind 1) []
    ∷ call (six 6 1 0) (six 2 1 1 ++ six 1 0 1) (accepted_with 2 2 0) (1 ∷ 2 ∷ [])
    ∷ call (six 6 1 1) [] (refused_at VoidForm 0) []
    ∷ call (1 ∷ []) [] (refused_at BookLength 0) []
    ∷ call [] (1 ∷ []) (refused_at ClaimsLength 0) []
    ∷ []

-- with any lent buffers that are long enough: the outcome, and the answers at the front of their buffer
abbrev pub Holds : Example → Type 0
Holds (call s cs due answers) =
    (l : Lent) → short_lent cs l ≡ false → (outcome s cs l ≡ due) × ((left s cs l (outcome s cs l)).answers ≡ front answers l.answers)

abbrev pub AllHold : List Example → Type 0
AllHold [] = Unit {0}
AllHold (e ∷ es) = Holds e × AllHold es

abbrev pub ExamplesHold : Type 0
ExamplesHold = AllHold examples
