-- A number in decimal is read back. Assumes nothing.
use Prim.Native.Nat.{ℕ, zero, suc, ◌+◌, ◌*◌, ◌-◌, ◌/◌, ◌%◌, ◌≤◌, ◌<◌}
use mathlib.Core.Path.{◌≡◌, refl, ◌∙◌}
use mathlib.Core.Bool.{true}
use mathlib.Core.List.{List, [], ◌∷◌, ◌++◌}
use native.Mathlib.Omega.{arith}
use native.Mathlib.Decide.{dec_lt}
use lib.ListN.{length, length-append}
use borrow.Author.Tests.{le-leb, lt-ltb, le-ltb}
use Rattle.lists.proofs.Bools.{and_both, both-and}
use Rattle.pages.specs.Decimal.{digit, spell, decimal}
use Rattle.std.specs.Prelude.{Some}
use Rattle.text.specs.Number.{is_digit, digits, value, number_from, number}
use Rattle.text.proofs.Numbers.{is-digit, number-some}

short : (most n : ℕ) → n < 10 → spell most n ≡ digit n
unfolding spell
short zero n h = refl
short (suc most) n h = rw (lt-ltb n 10 h, spell)

long : (most n : ℕ) → 10 ≤ n → spell (suc most) n ≡ spell most (n / 10) ++ digit (n % 10)
unfolding spell
long most n h = rw (le-ltb n 10 h, spell)

digits_append : (a b : List ℕ) → digits a ≡ true → digits b ≡ true → digits (a ++ b) ≡ true
unfolding digits
digits_append [] b p q = q
digits_append (x ∷ a) b p q =
    let h = and_both (is_digit x) (digits a) p in
    both-and h.0 (digits_append a b h.1 q)

value-append : (n : ℕ) (a b : List ℕ) → value n (a ++ b) ≡ value (value n a) b
unfolding value
value-append n [] b = refl
value-append n (x ∷ a) b = value-append (10 * n + (x - 48)) a b

digit-is : (d : ℕ) → d < 10 → digits (digit d) ≡ true
unfolding digits
digit-is d h = rw (is-digit (48 + d) (omega arith) (omega arith))

digit_value : (n d : ℕ) → value n (digit d) ≡ 10 * n + d
unfolding value
digit_value n d = omega arith

-- what is spelled is digits, some of them, of that value
pub record Spelled (n : ℕ) (l : List ℕ) : Type 0 where
  pub all : digits l ≡ true
  pub is : value 0 l ≡ n
  pub some : 0 < length l

one : (n : ℕ) → n < 10 → Spelled n (digit n)
one n h = record { all = digit-is n h; is = digit_value 0 n ∙ omega arith; some = omega arith }

more : (n : ℕ) (l : List ℕ) → Spelled (n / 10) l → Spelled n (l ++ digit (n % 10))
more n l h =
    record {
      all = digits_append l (digit (n % 10)) h.all (digit-is (n % 10) (omega arith));
      is = value-append 0 l (digit (n % 10)) ∙ digit_value (value 0 l) (n % 10) ∙ omega (arith, h.is);
      some = omega (arith, length-append l (digit (n % 10)), h.some);
    }

spelled : (most n : ℕ) → n ≤ most → Spelled n (spell most n)
spelled zero n h = rw (short zero n (omega arith)) (one n (omega arith))
spelled (suc most) n h =
    elim (dec_lt n 10) [
      | yes l ↦ rw (short (suc most) n l) (one n l)
      | no l ↦ rw (long most n (omega arith)) (more n (spell most (n / 10)) (spelled most (n / 10) (omega arith)))
    ]

pub decimal-spelled : (n : ℕ) → Spelled n (decimal n)
unfolding decimal
decimal-spelled n = spelled n n (omega arith)

pub number-decimal : (n : ℕ) → n ≤ 65535 → number (decimal n) ≡ Some n
unfolding number_from
number-decimal n h =
    let s = decimal-spelled n in
    number-some (decimal n) (λ z. omega (arith, s.some))
    ∙ rw (s.all, s.is, le-leb n 65535 h)
