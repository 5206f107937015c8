-- The grids and the question call, bit by bit. Assumes nothing.
use Rattle.outcomes.specs.Accepted.{Outcome}
use Rattle.std.specs.Prelude.{ℕ, ◌≡◌, false, List, [], ◌∷◌, eqb, get_or}
use Rattle.rules.specs.Fact.{Fact, kind, left, right, Within}
use Rattle.records.specs.Pieces.{piece_count}
use Rattle.outcomes.specs.Lent.{Lent, short_lent}
use Rattle.outcomes.specs.Call as call
use Rattle.outcomes.specs.Outcome.{number}
use Rattle.grids.specs.declared.rounds.Grids.{Grids}
use Rattle.grids.specs.Closed.{holds}
use Rattle.grids.specs.Gridded.{Gridded}

-- the claim of a bit, on all facts: a piece below 64 has 0 for its high byte
abbrev pub claim_of : Fact → List ℕ
claim_of f = kind f ∷ 0 ∷ left f ∷ 0 ∷ right f ∷ 0 ∷ []

-- the question call with that one claim accepts the book, and the bit is set exactly where it answers 1, FOLLOWS
pub record Asked (s : List ℕ) (g : Grids) (f : Fact) (l : Lent) : Type 0 where
  pub accepted : number (call.outcome s (claim_of f) l) ≡ 0
  pub agrees : holds g f ≡ eqb (get_or (call.left s (claim_of f) l (call.outcome s (claim_of f) l)).answers 0 0) 1

-- every bit about pieces of the book, in any buffers that are long enough; and a bit about another piece is zero
pub record EachBit (s : List ℕ) (g : Grids) (f : Fact) : Type 0 where
  pub asked : Within (piece_count s) f → (l : Lent) → short_lent (claim_of f) l ≡ false → Asked s g f l
  pub beyond : (Within (piece_count s) f → ⊥) → holds g f ≡ false

-- of all four grids, where the grid call accepts the book
abbrev pub EachBitAgrees : Type 0
EachBitAgrees = (s : List ℕ) (o : Outcome) (g : Grids) → Gridded s o g → number o ≡ 0 → (f : Fact) → Within 64 f → EachBit s g f
