-- How long the text of a grid is: at most 4,498 bytes. Assumes nothing.
use Prim.Native.Nat.{ℕ, ◌+◌, ◌*◌, ◌≤◌}
use mathlib.Core.Bool.{Bool, true, false}
use mathlib.Core.List.{[], ◌∷◌}
use native.Mathlib.Omega.{arith}
use lib.Dec.{ltb}
use lib.ListN.{length, length-append}
use Rattle.rules.specs.Fact.{Fact}
use Rattle.pages.proofs.Decimals.{decimal-length}
use Rattle.pages.proofs.Lined.{lines-length}
use Rattle.book_pages.specs.Sign.{pick, sign}
use Rattle.book_pages.specs.GridText.{digit, columns, heading, headings, signs, row, rows, grid_lines}

heading-width : (t : Bool) (n : ℕ) → length (heading t n) ≤ 4 + n
unfolding heading columns
heading-width t n = simp length-append (omega (arith, lines-length (λ b. digit t b ∷ []) 1 n (λ i l. omega arith)))

picked-width : (b : Bool) (n : ℕ) → length (pick b (heading true n) []) ≤ 4 + n
picked-width true n = heading-width true n
picked-width false n = omega arith

headings-width : (n : ℕ) → length (headings n) ≤ 8 + 2 * n
unfolding headings
headings-width n =
    omega (arith, length-append (pick (ltb 10 n) (heading true n) []) (heading false n), picked-width (ltb 10 n) n, heading-width false n)

module _ (D : Fact → Bool) where
  row-width : (n a : ℕ) → n ≤ 64 → length (row D n a) ≤ 68
  unfolding row signs
  row-width n a h = simp length-append (omega (arith, lines-length (λ b. sign D a b ∷ []) 1 n (λ i l. omega arith)))

  pub grid-width : (n : ℕ) → n ≤ 64 → length (grid_lines D n) ≤ 4498
  unfolding grid_lines rows
  grid-width n h =
      simp length-append
      (omega (arith, decimal-length 1 n (omega arith), headings-width n, lines-length (row D n) 68 n (λ a l. row-width n a h)))
