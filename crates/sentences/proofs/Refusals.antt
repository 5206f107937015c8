-- The fields of a refusal's line, without and with the line of a text, and which line that is. Assumes nothing.
use Prim.Native.Nat.{ℕ, zero, suc, ◌≤◌}
use mathlib.Core.Path.{◌≡◌, refl}
use mathlib.Core.List.{List, ◌++◌}
use native.Mathlib.Omega.{arith}
use lib.ListN.{get_or, get_or-eq_default}
use borrow.Author.Tests.{eq-eqb, ne_eqb}
use Rattle.records.specs.Refusal.{refusal_number}
use Rattle.records.specs.declared.Refusal.{Refusal}
use Rattle.text.specs.Place.{line_in}
use Rattle.pages.specs.Text.{ascii, field}
use Rattle.pages.specs.Decimal.{decimal}
use Rattle.sentences.specs.Refusals.{sentence, refusal_line, places, line_of, refused}

module _ (number place : ℕ) where
  pub plain : (l : ℕ) → l ≡ 0
      → ascii "REFUSED " ++ (field (decimal number) 32 ++ (field (decimal place) 32 ++ field (sentence number) 10)) ≡ refusal_line number place l
  unfolding refusal_line
  plain l is = rw is

  pub located : (l : ℕ) → (l ≡ 0 → ⊥)
      → ascii "REFUSED " ++ (field (decimal number) 32 ++ (field (decimal place) 32 ++ (ascii "line " ++ (field (decimal l) 32 ++ field (sentence number) 10))))
      ≡ refusal_line number place l
  unfolding refusal_line
  located zero h = absurd (h refl)
  located (suc l) h = refl

  module _ (book other : List ℕ) where
    pub of-book : get_or places number 0 ≡ 114 → line_in book place ≡ line_of number place book other
    unfolding line_of
    of-book is = rw (eq-eqb (get_or places number 0) 114 is)

    pub of_other : (get_or places number 0 ≡ 114 → ⊥) → get_or places number 0 ≡ 99 → line_in other place ≡ line_of number place book other
    unfolding line_of
    of_other not is = rw (ne_eqb (get_or places number 0) 114 not, eq-eqb (get_or places number 0) 99 is)

    pub of_none : (get_or places number 0 ≡ 114 → ⊥) → (get_or places number 0 ≡ 99 → ⊥) → 0 ≡ line_of number place book other
    unfolding line_of
    of_none not nor = rw (ne_eqb (get_or places number 0) 114 not, ne_eqb (get_or places number 0) 99 nor)

    -- numbers that no refusal has
    pub beyond : 22 ≤ number → 0 ≡ line_of number place book other
    beyond h =
        let none : get_or places number 0 ≡ 0 = get_or-eq_default places 0 h in
        of_none (λ is. absurd (omega (arith, none, is))) (λ is. absurd (omega (arith, none, is)))

pub as-refused : (r : Refusal) (number place l : ℕ) (book other : List ℕ) → number ≡ refusal_number r → l ≡ line_of number place book other
    → refusal_line number place l ≡ refused r place book other
unfolding refused
as-refused r number place l book other is at = rw (at, is)
