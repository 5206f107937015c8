-- What a call comes to, from its input alone: the outcome, and every buffer at exit. The call that writes the index alone is the call with no claims
-- and no answers. Assumes nothing.
use Rattle.records.specs.Refused.{BookCheck, ClaimsCheck, refused_at}
use Rattle.outcomes.specs.Accepted.{Outcome, accepted_with}
use Rattle.std.specs.Prelude.{◌≡◌, ℕ, ◌-◌, Bool, true, false, List, eqb, leb, length, replicate, Err, Ok}
use Rattle.lists.specs.Front.{front}
use Rattle.rules.specs.Entries.{shortest_clash}
use Rattle.records.specs.Record.{records}
use Rattle.records.specs.Refusal.{refusal_number}
use Rattle.records.specs.Check.{book_check, claims_check}
use Rattle.records.specs.Facts.{entries, facts}
use Rattle.records.specs.Marked.{marked}
use Rattle.records.specs.declared.Refusal.TheVariants.{ShortBuffer, Contradiction}
use Rattle.groups.specs.Index.{book_parens, book_visits, book_places}
use Rattle.records.specs.PartIn.{part_in}
use Rattle.parentheses.specs.Padded.{padded}
use Rattle.index.specs.Parts as on
use Rattle.records.specs.Claimed.{answers_to}
use Rattle.outcomes.specs.Lent.{Lent, short_lent}

-- the pairs (part, container) of a book
abbrev pub pairs_of : List ℕ → ℕ → ℕ → Bool
pairs_of s = part_in (facts s)

-- ---- the outcome: rows 1 to 14 from top to bottom

-- row 14, from the shortest contradictory run: the whole book's marks count in every run
unfoldable pub by_runs : List ℕ → ℕ → Outcome
by_runs s n =
    elim (leb (shortest_clash (marked s) n (entries s)) (records s)) [
      | true ↦ refused_at Contradiction (shortest_clash (marked s) n (entries s) - 1)
      | false ↦ accepted_with n (length (book_visits n (pairs_of s))) (length (on.shadows (book_visits n (pairs_of s))))
    ]

unfoldable pub by_claims : List ℕ → ℕ → ClaimsCheck → Outcome
by_claims s n (Err r) = Err r
by_claims s n (Ok _) = by_runs s n

unfoldable pub by_book : List ℕ → List ℕ → BookCheck → Outcome
by_book s cs (Err r) = Err r
by_book s cs (Ok n) = by_claims s n (claims_check n cs)

unfoldable pub outcome : List ℕ → List ℕ → Lent → Outcome
outcome s cs l = elim (short_lent cs l) [ true ↦ refused_at ShortBuffer 0 | false ↦ by_book s cs (book_check s) ]

-- no row before 14 refuses a book of n pieces
pub record Passed (s cs : List ℕ) (l : Lent) (n : ℕ) : Type 0 where
  pub lent : short_lent cs l ≡ false
  pub sound : book_check s ≡ Ok n
  pub fit : claims_check n cs ≡ Ok tt

-- ---- the buffers at exit

unfoldable pub indexed : List ℕ → List ℕ → ℕ → Lent → Lent
indexed s cs n l = record {
  parens = front (on.packed 2560 (book_parens n (pairs_of s))) l.parens;
  marks = front (on.packed 1280 (on.marks (book_visits n (pairs_of s)))) l.marks;
  shadows = front (padded 0 8192 (on.shadow_list (book_visits n (pairs_of s)))) l.shadows;
  places = front (padded 0 2048 (book_places n (pairs_of s))) l.places;
  answers = front (answers_to s n cs) l.answers;
}

unfoldable pub cleared : Lent → Lent
cleared l = record {
  parens = front (replicate 2560 0) l.parens;
  marks = front (replicate 1280 0) l.marks;
  shadows = front (replicate 8192 0) l.shadows;
  places = front (replicate 2048 0) l.places;
  answers = l.answers;
}

-- acceptance writes the index and the answers, refusal 14 zeroes the index, and any other refusal writes nowhere
unfoldable pub left : List ℕ → List ℕ → Lent → Outcome → Lent
left s cs l (Ok n) = indexed s cs n.pieces l
left s cs l (Err r) = elim (eqb (refusal_number r.refusal) 14) [ true ↦ cleared l | false ↦ l ]

-- a call is determined: its outcome and what it leaves in the buffers
abbrev pub Determined : List ℕ → List ℕ → Lent → Outcome → Lent → Type 0
Determined s cs l r l' = (r ≡ outcome s cs l) × (l' ≡ left s cs l r)
