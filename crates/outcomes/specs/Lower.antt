-- A book whose containers have lower numbers than their parts keeps the index that it had before pieces could be one: that of its pieces and their
-- pairs, every byte of it. Assumes nothing.
use Rattle.std.specs.Prelude.{ℕ, ◌<◌, ◌≡◌, Bool, List, length, Ok}
use Rattle.lists.specs.Front.{front}
use Rattle.parentheses.specs.Padded.{padded}
use Rattle.records.specs.Record.{record_at, records}
use Rattle.records.specs.Check.{book_check}
use Rattle.index.specs.Pairs.{joined}
use Rattle.index.specs.Index.{parentheses_of, visits_of}
use Rattle.index.specs.Parts as on
use Rattle.groups.specs.Index.{book_visits}
use Rattle.records.specs.Claimed.{answers_to}
use Rattle.outcomes.specs.Lent.{Lent}
use Rattle.outcomes.specs.Call.{pairs_of, indexed}

-- the pairs of a book with n pieces, with the joins to piece 0
unfoldable pub edges : ℕ → List ℕ → ℕ → ℕ → Bool
edges n s = joined n (pairs_of s)

-- the buffers with the index of the pieces
unfoldable pub by_pieces : List ℕ → List ℕ → ℕ → Lent → Lent
by_pieces s cs n l = record {
  parens = front (on.packed 2560 (parentheses_of n (edges n s))) l.parens;
  marks = front (on.packed 1280 (on.marks (visits_of n (edges n s)))) l.marks;
  shadows = front (padded 0 8192 (on.shadow_list (visits_of n (edges n s)))) l.shadows;
  places = front (padded 0 2048 (on.place_list n (visits_of n (edges n s)))) l.places;
  answers = front (answers_to s n cs) l.answers;
}

pub record Kept (s : List ℕ) (n : ℕ) : Type 0 where
  pub buffers : (cs : List ℕ) (l : Lent) → indexed s cs n l ≡ by_pieces s cs n l
  pub nodes : length (book_visits n (pairs_of s)) ≡ length (visits_of n (edges n s))
  pub shadows : length (on.shadows (book_visits n (pairs_of s))) ≡ length (on.shadows (visits_of n (edges n s)))

abbrev pub LowerIndex : Type 0
LowerIndex =
    (s : List ℕ) (n : ℕ) → book_check s ≡ Ok n → ((i : ℕ) → i < records s → (record_at s i).kind ≡ 1 → (record_at s i).b < (record_at s i).a)
    → Kept s n
