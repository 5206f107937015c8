-- A number that is read digit by digit. Assumes nothing.
use Prim.Native.Nat.{ℕ, ◌+◌, ◌*◌, ◌-◌, ◌≤◌, ◌<◌}
use mathlib.Core.Path.{◌≡◌, refl, sym, ap, ◌∙◌}
use mathlib.Core.Bool.{true, false}
use mathlib.Core.List.{List, [], ◌∷◌}
use native.Mathlib.Omega.{arith}
use lib.Dec.{leb}
use lib.ListN.{length, drop, get_or, drop_of_length-le}
use borrow.Author.Tests.{leb-true, le-leb, lt-leb}
use Rattle.lists.proofs.Bools.{and_both, and-false}
use Rattle.std.specs.Prelude.{Some, None}
use Rattle.std.specs.Char.{is_ascii_digit}
use Rattle.text.specs.Number.{is_digit, digits, value, number_from, number}
use Rattle.lists.proofs.Parts.{here}

pub digit-between : (x : ℕ) → is_digit x ≡ true → (48 ≤ x) × (x ≤ 57)
unfolding is_digit
digit-between x e = let b = and_both (leb 48 x) (leb x 57) e in (leb-true 48 x b.0, leb-true x 57 b.1)

pub is-digit : (x : ℕ) → 48 ≤ x → x ≤ 57 → is_digit x ≡ true
unfolding is_digit
is-digit x g h = rw (le-leb 48 x g, le-leb x 57 h)

pub digit-test : (x : ℕ) → is_ascii_digit x ≡ is_digit x
unfolding is_digit
digit-test x = refl

grows : (n : ℕ) (l : List ℕ) → n ≤ value n l
unfolding value
grows n [] = omega arith
grows n (x ∷ xs) = omega (arith, grows (10 * n + (x - 48)) xs)

pub from_more : (n x : ℕ) (xs : List ℕ) → is_digit x ≡ true → number_from n (x ∷ xs) ≡ number_from (10 * n + (x - 48)) xs
unfolding number_from digits value
from_more n x xs e = rw e

pub from-other : (n x : ℕ) (xs : List ℕ) → is_digit x ≡ false → number_from n (x ∷ xs) ≡ None
unfolding number_from digits value
from-other n x xs e = rw e

pub from-large : (n : ℕ) (l : List ℕ) → 65535 < n → number_from n l ≡ None
unfolding number_from
from-large n l h = rw (lt-leb (value n l) 65535 (omega (arith, grows n l)), and-false (digits l))

pub from_end : (n : ℕ) → n ≤ 65535 → number_from n [] ≡ Some n
unfolding number_from digits value
from_end n h = rw (le-leb n 65535 h)

-- the same at a place of a word
module _ (w : List ℕ) (i n : ℕ) where
  pub at_more : (v : ℕ) → i < length w → is_digit (get_or w i 0) ≡ true → v ≡ get_or w i 0 - 48 → number_from n (drop i w) ≡ number_from (10 * n + v) (drop (i + 1) w)
  at_more v h e q =
      ap (number_from n) (here w i 0 h) ∙ from_more n (get_or w i 0) (drop (i + 1) w) e ∙ ap (λ (u : ℕ). number_from (10 * n + u) (drop (i + 1) w)) (sym q)

  pub at_other : i < length w → is_digit (get_or w i 0) ≡ false → number_from n (drop i w) ≡ None
  at_other h e = ap (number_from n) (here w i 0 h) ∙ from-other n (get_or w i 0) (drop (i + 1) w) e

  pub at-end : length w ≤ i → n ≤ 65535 → number_from n (drop i w) ≡ Some n
  at-end h g = ap (number_from n) (drop_of_length-le w h) ∙ from_end n g

pub number-none : (w : List ℕ) → length w ≡ 0 → number w ≡ None
unfolding number
number-none [] h = refl
number-none (x ∷ xs) h = absurd (omega arith)

pub number-some : (w : List ℕ) → (length w ≡ 0 → ⊥) → number w ≡ number_from 0 w
unfolding number
number-some [] h = absurd (h refl)
number-some (x ∷ xs) h = refl
