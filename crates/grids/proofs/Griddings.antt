-- The call: its outcome, and the grids of an accepted book. Assumes nothing.
use Rattle.std.specs.Prelude.{Ok}
use Rattle.records.specs.Refused.{refused_at}
use Rattle.outcomes.specs.Accepted.{Outcome, accepted_with}
use Prim.Native.Nat.{ℕ, ◌<◌, ◌≤◌}
use mathlib.Core.Path.{◌≡◌, sym, ap, ap₂, ◌∙◌}
use mathlib.Core.Bool.{Bool, false}
use mathlib.Core.List.{List, []}
use native.Mathlib.Omega.{arith}
use borrow.Author.Tests.{lt-ltb, le-ltb}
use lib.ListN.{get_or, replicate, get_or-replicate}
use Rattle.matrices.specs.Matrix.{bit, bit_of}
use Rattle.matrices.proofs.Laws.{bit-zero}
use Rattle.rules.specs.Fact.{Fact, PART, APART, MEETS, NOTPART, Within}
use Rattle.records.specs.Facts.{facts}
use Rattle.records.specs.Marked.{marked}
use Rattle.records.specs.Check.{book_check}
use Rattle.records.specs.declared.Refusal.{Refusal}
use Rattle.records.specs.declared.Refusal.TheVariants.{TooManyPieces}
use Rattle.records.proofs.Accepted.{accepted, accepted-within, accepted-positive}
use Rattle.closure.specs.Void.{void_of}
use Rattle.outcomes.specs.Fresh.{fresh_call}
use Rattle.grids.specs.declared.rounds.Grids.{Grids}
use Rattle.grids.specs.Grid.{bit_at}
use Rattle.grids.specs.Loaded.{Loadable}
use Rattle.grids.specs.Closed.{holds}
use Rattle.grids.specs.Answers.{Answers}
use Rattle.grids.specs.Gridded.{sized, by_size, grid_outcome, bit_for, Blank, Gridded}

module _ (s : List ℕ) (g : Grids) where
  gridded : (o : Outcome) → grid_outcome s ≡ o → ((f : Fact) → Within 64 f → holds g f ≡ bit_for s o f) → Gridded s o g
  gridded o p h = record { outcome-is = sym p; bits = λ f w. h f w ∙ ap (λ (x : Outcome). bit_for s x f) (sym p) }

  pub refused-grid : {r : Refusal} {i : ℕ} → fresh_call s [] ≡ refused_at r i → Blank g → Gridded s (refused_at r i) g
  unfolding grid_outcome by_size bit_for
  refused-grid {r} {i} e b = gridded (refused_at r i) (ap by_size e) b

  module _ {n v h : ℕ} (e : fresh_call s [] ≡ accepted_with n v h) where
    pub large-grid : 64 < n → Blank g → Gridded s (refused_at TooManyPieces 0) g
    unfolding grid_outcome by_size bit_for
    large-grid l b = gridded (refused_at TooManyPieces 0) (ap by_size e ∙ ap (λ (t : Bool). sized t (accepted_with n v h)) (lt-ltb 64 n l)) b

    pub small-grid : n ≤ 64 → Answers (marked s) n (facts s) g → Gridded s (accepted_with n v h) g
    unfolding grid_outcome by_size bit_for
    small-grid l a = gridded (accepted_with n v h) (ap by_size e ∙ ap (λ (t : Bool). sized t (accepted_with n v h)) (le-ltb 64 n l)) a.bits

-- grids of words 0
pub no_bits : (g : Grids) → g.part ≡ replicate 64 0 → g.apart ≡ replicate 64 0 → g.meets ≡ replicate 64 0 → g.notpart ≡ replicate 64 0 → Blank g
unfolding bit_at
no_bits g p a m n = go
  where
    none : (l : List ℕ) (x y : ℕ) → x < 64 → l ≡ replicate 64 0 → bit_at l x y ≡ false
    none l x y b e = ap (λ (t : List ℕ). bit (get_or t x 0) y) e ∙ ap (λ (t : ℕ). bit t y) (get_or-replicate 64 x 0 0 b) ∙ bit-zero y

    go : (f : Fact) → Within 64 f → holds g f ≡ false
    go (PART x y) w = none g.part x y w.0 p
    go (APART x y) w = none g.apart x y w.0 a
    go (MEETS x y) w = none g.meets x y w.0 m
    go (NOTPART x y) w = none g.notpart x y w.0 n

pub loadable : (s : List ℕ) (n : ℕ) → book_check s ≡ Ok n → n ≤ 64 → Loadable n s
loadable s n e l =
    let A = accepted s n e in
    record { some = accepted-positive A; few = l; whole = A.whole; within = accepted-within A }

-- the first word of the row of marks has those of 64 pieces
pub first_word : (row : List ℕ) (s : List ℕ) (n : ℕ) → n ≤ 64 → void_of row ≡ marked s → (a : ℕ) → a < n → bit (get_or row 0 0) a ≡ marked s a
unfolding void_of bit_of
first_word row s n l e a m =
    ap₂ (λ (i j : ℕ). bit (get_or row i 0) j) (omega arith) (omega arith) ∙ ap (λ (v : ℕ → Bool). v a) e
