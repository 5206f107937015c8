-- The index of an accepted book fits document 01's lengths, so that nothing is written beyond them: 2,560 bytes have 20,480 parentheses. Assumes nothing.
use Rattle.std.specs.Prelude.{◌≡◌, List, ℕ, ◌≤◌, length}
use Rattle.records.specs.Pieces.{piece_count}
use Rattle.groups.specs.Index.{book_parens, book_visits, book_places}
use Rattle.index.specs.Parts as on
use Rattle.outcomes.specs.Call.{pairs_of}

pub record Fits (n : ℕ) (book : List ℕ) (nodes : ℕ) : Type 0 where
  pub nodes-fit : nodes ≤ 10240
  pub parens-fit : length (book_parens n (pairs_of book)) ≤ 20480
  pub shadows-fit : length (on.shadow_list (book_visits n (pairs_of book))) ≤ 8192
  pub places-fit : length (book_places n (pairs_of book)) ≤ 2048

abbrev pub Fitting : List ℕ → ℕ → ℕ → Type 0
Fitting book number nodes = number ≡ 0 → Fits (piece_count book) book nodes
