-- Entry order has no influence, and records that are added alter no FOLLOWS and no DENIED, but for marks. Assumes nothing.
use Rattle.records.specs.Refused.{refused_at}
use Rattle.std.specs.Prelude.{ℕ, ◌<◌, ◌≡◌, ◌⊎◌, false, List, [], ◌∷◌, ◌++◌, get_or, Ok}
use Rattle.records.specs.Record.{record_at, records}
use Rattle.records.specs.Marked.{marked}
use Rattle.records.specs.Reordered.{Reordered}
use Rattle.records.specs.Check.{book_check}
use Rattle.records.specs.declared.Refusal.TheVariants.{Contradiction}
use Rattle.lists.specs.Front.{front}
use Rattle.outcomes.specs.Lent.{Lent, short_lent}
use Rattle.outcomes.specs.Outcome.{number}
use Rattle.outcomes.specs.Call.{outcome, left}

-- ---- order

-- one call on two books: the outcomes with their counts are equal, or both books are refused as contradictory, each at a place of its own; and every
-- buffer at exit, index and answers, is equal
pub record Alike (s t cs : List ℕ) (l : Lent) : Type 0 where
  pub outcomes : (outcome s cs l ≡ outcome t cs l) ⊎ ((number (outcome s cs l) ≡ 14) × (number (outcome t cs l) ≡ 14))
  pub buffers : left s cs l (outcome s cs l) ≡ left t cs l (outcome t cs l)

-- the same records in another order: where no row of the book but 14 refuses s, none but 14 refuses t, and every call on the two is alike, whatever the
-- claims, restricted ones included, and the lent buffers
abbrev pub OrderFree : Type 0
OrderFree =
    (s t : List ℕ) → Reordered s t → (n : ℕ) → book_check s ≡ Ok n
    → (book_check t ≡ Ok n) × ((cs : List ℕ) (l : Lent) → Alike s t cs l)

-- the place of 14 may differ: it does for some two such books
abbrev pub PlaceDiffers : Type 0
PlaceDiffers =
    (s t : List ℕ) × Reordered s t
    × ((l : Lent) → short_lent [] l ≡ false → (outcome s [] l ≡ refused_at Contradiction 0) × (outcome t [] l ≡ refused_at Contradiction 1))

-- ---- more records

-- the byte that a call writes as the answer to claim i
abbrev pub answer_of : List ℕ → List ℕ → Lent → ℕ → ℕ
answer_of s cs l i = get_or (left s cs l (outcome s cs l)).answers i 0

-- t has the records of s and those of r besides, none of them a mark, in whatever order, new pieces or not: where both are accepted, what s answers by
-- FOLLOWS or DENIED t answers so too, restricted or not
abbrev pub Steady : Type 0
Steady =
    (s r t cs : List ℕ) (l : Lent) → Reordered (s ++ r) t → ((g : ℕ) → marked r g ≡ false) → number (outcome s cs l) ≡ 0 → number (outcome t cs l) ≡ 0
    → (i : ℕ) → i < records cs → (answer_of s cs l i ≡ 1 → answer_of t cs l i ≡ 1) × (answer_of s cs l i ≡ 2 → answer_of t cs l i ≡ 2)

-- a mark that is added can turn any answer into any other: for one book and one mark both are accepted, and six claims have each turn once
pub record Turned (s r cs : List ℕ) (l : Lent) : Type 0 where
  pub one : records r ≡ 1
  pub mark : (record_at r 0).kind ≡ 6
  pub accepted : (number (outcome s cs l) ≡ 0) × (number (outcome (s ++ r) cs l) ≡ 0)
  pub before : (left s cs l (outcome s cs l)).answers ≡ front (1 ∷ 1 ∷ 2 ∷ 2 ∷ 3 ∷ 3 ∷ []) l.answers
  pub after : (left (s ++ r) cs l (outcome (s ++ r) cs l)).answers ≡ front (3 ∷ 2 ∷ 3 ∷ 1 ∷ 1 ∷ 2 ∷ []) l.answers

abbrev pub MarksTurn : Type 0
MarksTurn = (s r cs : List ℕ) × ((l : Lent) → short_lent cs l ≡ false → Turned s r cs l)
