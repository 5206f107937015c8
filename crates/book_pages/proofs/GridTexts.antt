-- The text of a grid by grids and by what follows. Assumes nothing.
use Rattle.std.specs.Prelude.{Err, Ok}
use Rattle.records.specs.Refused.{refused_at}
use Rattle.outcomes.specs.Accepted.{Outcome, accepted_with}
use Prim.Native.Nat.{ℕ, ◌+◌, ◌/◌, ◌%◌, ◌≤◌, ◌<◌}
use mathlib.Core.Path.{◌≡◌, refl, ◌∙◌, ap, sym}
use mathlib.Core.Bool.{Bool, true, false, ◌&&◌}
use mathlib.Core.List.{List, [], ◌∷◌, ◌++◌}
use native.Mathlib.Omega.{arith}
use lib.Dec.{ltb}
use lib.ListN.{length}
use borrow.Author.Tests.{lt-ltb, le-ltb, ltb-false}
use Rattle.rules.specs.Fact.{Fact, PART, APART, MEETS, NOTPART, left, right, Within}
use Rattle.rules.specs.Follows.{follows}
use Rattle.records.specs.Facts.{facts}
use Rattle.records.specs.Marked.{marked}
use Rattle.records.specs.declared.Refusal.{Refusal}
use Rattle.records.specs.declared.Refusal.TheVariants.{TooManyPieces}
use Rattle.grids.specs.declared.rounds.Grids.{Grids}
use Rattle.grids.specs.Closed.{holds}
use Rattle.outcomes.specs.Fresh.{fresh_call}
use Rattle.grids.specs.Loaded.{among}
use Rattle.grids.specs.Answers.{claimed}
use Rattle.grids.specs.Gridded.{by_size, grid_outcome, bit_for, Gridded}
use Rattle.sentences.specs.Refusals as line
use Rattle.pages.proofs.Lined.{same_lines}
use Rattle.book_pages.proofs.Rooms.{grid-width}
use Rattle.book_pages.specs.Sign.{between, sign}
use Rattle.book_pages.specs.GridText.{tens, ones, digit, heading, headings, signs, row, rows, grid_lines, text_of, sheet_text}

-- ---- the columns

pub no-tens : (b : ℕ) → b < 10 → 32 ≡ tens b
unfolding tens
no-tens b h = rw (lt-ltb b 10 h)

pub some-tens : (b : ℕ) → 10 ≤ b → 48 + b / 10 % 10 ≡ tens b
unfolding tens
some-tens b h = rw (le-ltb b 10 h)

pub one-heading : (n : ℕ) → n ≤ 10 → heading false n ≡ headings n
unfolding headings
one-heading n h = rw (le-ltb 10 n h)

pub two-headings : (n : ℕ) → 10 < n → heading true n ++ heading false n ≡ headings n
unfolding headings
two-headings n h = rw (lt-ltb 10 n h)

pub of-tens : (t : Bool) (b x : ℕ) → t ≡ true → x ≡ tens b → x ≡ digit t b
unfolding digit
of-tens t b x h is = rw (h, is)

pub of_ones : (t : Bool) (b x : ℕ) → t ≡ false → x ≡ ones b → x ≡ digit t b
unfolding digit
of_ones t b x h is = rw (h, is)

-- ---- the signs

-- two ways of telling which facts about n pieces follow give one text
module _ (D E : Fact → Bool) (n : ℕ) (same : (f : Fact) → Within n f → D f ≡ E f) where
  same_sign : (a b : ℕ) → a < n → b < n → sign D a b ≡ sign E a b
  unfolding sign between
  same_sign a b h g =
      rw (same (APART a a) (h, h), same (APART b b) (g, g), same (PART a b) (h, g), same (PART b a) (g, h), same (APART a b) (h, g), same (MEETS a b) (h, g), same (NOTPART a b) (h, g), same (NOTPART b a) (g, h))

  same_row : (a : ℕ) → a < n → row D n a ≡ row E n a
  unfolding row signs
  same_row a h = rw (same_lines (λ b. sign D a b ∷ []) (λ b. sign E a b ∷ []) n (λ b g. rw (same_sign a b h g)))

  pub same-grid : grid_lines D n ≡ grid_lines E n
  unfolding grid_lines rows
  same-grid = rw (same_lines (row D n) (row E n) n same_row)

data Known (b : Bool) : Type 0 where
  is_true : b ≡ true → Known b
  is_false : b ≡ false → Known b

known : (b : Bool) → Known b
known true = is_true refl
known false = is_false refl

few : (o : Outcome) (n x y : ℕ) → by_size o ≡ accepted_with n x y → n ≤ 64
unfolding by_size
few (Err r) n x y is = let z : ◌≡◌ {A = ℕ} 0 1 = cc in absurd (omega arith)
few (Ok m) n x y is = go (known (ltb 64 m.pieces)) where
  go : Known (ltb 64 m.pieces) → n ≤ 64
  go (is_true h) = let e : refused_at TooManyPieces 0 ≡ accepted_with n x y = rw h at is in let z : ◌≡◌ {A = ℕ} 0 1 = cc in absurd (omega arith)
  go (is_false h) =
      let e : accepted_with m.pieces m.nodes m.shadows ≡ accepted_with n x y = rw h at is in
      let z : m.pieces ≡ n = cc in
      omega (arith, ltb-false 64 m.pieces h)

among-them : (n : ℕ) (f : Fact) → Within n f → among n (left f) (right f) ≡ true
unfolding among
among-them n f w = rw (lt-ltb (left f) n w.0, lt-ltb (right f) n w.1)

module _ (s source : List ℕ) (o : Outcome) (g : Grids) (d : Gridded s o g) where
  pub refused : (r : Refusal) (i : ℕ) → o ≡ refused_at r i → line.refused r i source [] ≡ sheet_text s source
  unfolding sheet_text text_of
  refused r i is = rw (← d.outcome-is, is)

  pub refused-short : (r : Refusal) (i : ℕ) → o ≡ refused_at r i → length (line.refused r i source []) ≤ 142 → length (sheet_text s source) ≤ 4498
  refused-short r i is h = rw (sym (refused r i is)) (omega arith)

  module _ (n x y : ℕ) (is : o ≡ accepted_with n x y) where
    pub small : n ≤ 64
    unfolding grid_outcome
    small = few (fresh_call s []) n x y (sym d.outcome-is ∙ is)

    bits-follow : (f : Fact) → Within n f → holds g f ≡ follows (marked s) n (facts s) f
    unfolding bit_for claimed
    bits-follow f w =
        d.bits f (omega (arith, small), omega (arith, small))
        ∙ ap (λ p. bit_for s p f) (sym d.outcome-is ∙ is)
        ∙ ap (λ b. b && follows (marked s) n (facts s) f) (among-them n f w)

    pub accepted : grid_lines (holds g) n ≡ sheet_text s source
    unfolding sheet_text text_of
    accepted = same-grid (holds g) (follows (marked s) n (facts s)) n bits-follow ∙ rw (← d.outcome-is, is)

    pub accepted-short : length (sheet_text s source) ≤ 4498
    accepted-short = rw (sym accepted) (grid-width (holds g) n small)
