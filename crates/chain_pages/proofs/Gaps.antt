-- A number in decimal is read back, behind bytes that are no digits. Assumes nothing.
use Prim.Native.Nat.{ℕ, ◌≤◌, ◌<◌}
use mathlib.Core.Path.{◌≡◌, refl, ap, ◌∙◌}
use mathlib.Core.Bool.{Bool, true, false, not, ◌&&◌}
use mathlib.Core.List.{List, [], ◌∷◌, ◌++◌}
use native.Mathlib.Omega.{arith}
use lib.Dec.{ltb}
use lib.ListN.{length}
use borrow.Author.Tests.{lt-ltb}
use Rattle.lists.proofs.Bools.{and_both, both-and}
use Rattle.pages.specs.Decimal.{decimal}
use Rattle.text.specs.declared.words.Sort.TheVariants.{Digit, Gap}
use Rattle.text.specs.Runs.{of_sort, run, behind}
use Rattle.std.specs.Option.{unwrap_or}
use Rattle.text.specs.Number.{is_digit, digits, number}
use Rattle.text.proofs.Runs.{run-yes, run-no, behind-yes, behind-no}
use Rattle.text.proofs.Decimals.{decimal-spelled, number-decimal}
use Rattle.chain_pages.specs.Read.{digits_in, after, found, num}

-- no digits
unfoldable pub gaps : List ℕ → Bool
gaps [] = true
gaps (x ∷ xs) = not (is_digit x) && gaps xs

pub gaps-append : (a b : List ℕ) → gaps a ≡ true → gaps b ≡ true → gaps (a ++ b) ≡ true
unfolding gaps
gaps-append [] b p q = q
gaps-append (x ∷ a) b p q = let h = and_both (not (is_digit x)) (gaps a) p in both-and h.0 (gaps-append a b h.1 q)

is-gap : (x : ℕ) → not (is_digit x) ≡ true → of_sort Gap x ≡ true
unfolding of_sort
is-gap x e = e

no_gap : (x : ℕ) → is_digit x ≡ true → of_sort Gap x ≡ false
unfolding of_sort
no_gap x e = ap not e

skip_all : (g : List ℕ) → gaps g ≡ true → behind (of_sort Gap) g ≡ []
unfolding gaps behind
skip_all [] p = refl
skip_all (x ∷ g) p = let h = and_both (not (is_digit x)) (gaps g) p in behind-yes (of_sort Gap) x g (is-gap x h.0) ∙ skip_all g h.1

skip : (g d t : List ℕ) → gaps g ≡ true → digits d ≡ true → 0 < length d → behind (of_sort Gap) (g ++ (d ++ t)) ≡ d ++ t
unfolding gaps digits
skip [] [] t p q h = absurd (omega arith)
skip [] (x ∷ d) t p q h = behind-no (of_sort Gap) x (d ++ t) (no_gap x (and_both (is_digit x) (digits d) q).0)
skip (x ∷ g) d t p q h = let k = and_both (not (is_digit x)) (gaps g) p in behind-yes (of_sort Gap) x (g ++ (d ++ t)) (is-gap x k.0) ∙ skip g d t k.1 q h

is_one : (x : ℕ) → is_digit x ≡ true → of_sort Digit x ≡ true
unfolding of_sort
is_one x e = e

is_none : (x : ℕ) → is_digit x ≡ false → of_sort Digit x ≡ false
unfolding of_sort
is_none x e = e

module _ (x : ℕ) (r : List ℕ) (ends : is_digit x ≡ false) where
  run-digits : (d : List ℕ) → digits d ≡ true → run (of_sort Digit) (d ++ (x ∷ r)) ≡ d
  unfolding digits
  run-digits [] p = run-no (of_sort Digit) x r (is_none x ends)
  run-digits (y ∷ d) p =
      let h = and_both (is_digit y) (digits d) p in
      run-yes (of_sort Digit) y (d ++ (x ∷ r)) (is_one y h.0) ∙ ap (λ (z : List ℕ). y ∷ z) (run-digits d h.1)

  behind-digits : (d : List ℕ) → digits d ≡ true → behind (of_sort Digit) (d ++ (x ∷ r)) ≡ x ∷ r
  unfolding digits
  behind-digits [] p = behind-no (of_sort Digit) x r (is_none x ends)
  behind-digits (y ∷ d) p =
      let h = and_both (is_digit y) (digits d) p in behind-yes (of_sort Digit) y (d ++ (x ∷ r)) (is_one y h.0) ∙ behind-digits d h.1

  module _ (g : List ℕ) (n : ℕ) (gap : gaps g ≡ true) where
    passed : behind (of_sort Gap) (g ++ (decimal n ++ (x ∷ r))) ≡ decimal n ++ (x ∷ r)
    passed = let s = decimal-spelled n in skip g (decimal n) (x ∷ r) gap s.all s.some

    there : digits_in (g ++ (decimal n ++ (x ∷ r))) ≡ decimal n
    unfolding digits_in
    there = ap (run (of_sort Digit)) passed ∙ run-digits (decimal n) (decimal-spelled n).all

    pub after_is : after (g ++ (decimal n ++ (x ∷ r))) ≡ x ∷ r
    unfolding after
    after_is = ap (behind (of_sort Digit)) passed ∙ behind-digits (decimal n) (decimal-spelled n).all

    pub found-is : found (g ++ (decimal n ++ (x ∷ r))) ≡ true
    unfolding found
    found-is = ap (λ (d : List ℕ). ltb 0 (length d)) there ∙ lt-ltb 0 (length (decimal n)) (decimal-spelled n).some

    pub num-is : n ≤ 65535 → num (g ++ (decimal n ++ (x ∷ r))) ≡ n
    unfolding num
    num-is h = ap (λ (d : List ℕ). unwrap_or (number d) 0) there ∙ ap (λ m. unwrap_or m 0) (number-decimal n h)

pub found_none : (g : List ℕ) → gaps g ≡ true → found g ≡ false
unfolding found digits_in run
found_none g p = rw (skip_all g p)
