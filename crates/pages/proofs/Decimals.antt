-- `decimal` is what `io::decimal` spells, and how long it is. Assumes nothing.
use Prim.Native.Nat.{ℕ, zero, suc, ◌*◌, ◌-◌, ◌/◌, ◌%◌, ◌^◌, ◌≤◌, ◌<◌}
use mathlib.Core.Path.{◌≡◌, refl, ◌∙◌, ap, sym}
use mathlib.Core.List.{List, [], ◌∷◌, ◌++◌}
use native.Mathlib.Nat.{pow-suc, one-le-pow}
use native.Mathlib.Decide.{dec_lt}
use native.Mathlib.Omega.{arith}
use lib.ListN.{length, take, length-append}
use borrow.Author.Tests.{lt-ltb, le-ltb}
use Rattle.io.specs.Digits.{hex_digit_ascii, last_digits, IsDigitCount}
use Rattle.pages.specs.Decimal.{digit, spell, decimal}

short : (most n : ℕ) → n < 10 → spell most n ≡ digit n
unfolding spell
short zero n h = refl
short (suc most) n h = rw (lt-ltb n 10 h, spell)

long : (most n : ℕ) → 10 ≤ n → spell (suc most) n ≡ spell most (n / 10) ++ digit (n % 10)
unfolding spell
long most n h = rw (le-ltb n 10 h, spell)

glyph-is : (d : ℕ) → d < 10 → digit d ≡ hex_digit_ascii d ∷ []
glyph-is d h = rw (lt-ltb d 10 h)

last-digit : (n : ℕ) → digit (n % 10) ≡ hex_digit_ascii (n % 10) ∷ []
last-digit n = glyph-is (n % 10) (omega arith)

at_least : (k n : ℕ) → IsDigitCount 10 1 n (suc (suc k)) → 10 ^ k * 10 ≤ n
at_least k n f =
    let e : suc (suc k) - 1 ≡ suc k = omega arith in
    omega (arith, f.2 (omega arith), ap (λ m. 10 ^ m) e, pow-suc 10 k)

ten : (k n : ℕ) → IsDigitCount 10 1 n (suc (suc k)) → 10 ≤ n
ten k n f = omega (arith, at_least k n f, one-le-pow k 10 (omega arith))

below : (k n : ℕ) → n < 10 ^ suc k → n / 10 < 10 ^ k
below k n h = omega (arith, pow-suc 10 k)

-- what holds of n and its digits holds of n / 10 and one digit less
fewer : (k n : ℕ) → IsDigitCount 10 1 n (suc (suc k)) → IsDigitCount 10 1 (n / 10) (suc k)
fewer k n f =
    let e : suc k - 1 ≡ k = omega arith in
    (omega arith, below (suc k) n f.1, λ _. omega (arith, at_least k n f, ap (λ m. 10 ^ m) e))

spelled : (k most n : ℕ) → n ≤ most → IsDigitCount 10 1 n k → spell most n ≡ last_digits 10 k n
spelled zero most n e f = absurd (omega (arith, f.0))
spelled (suc zero) most n e f = short most n f.1 ∙ ap digit (omega (arith, f.1)) ∙ last-digit n
spelled (suc (suc k)) zero n e f = absurd (omega (arith, ten k n f))
spelled (suc (suc k)) (suc most) n e f =
    long most n (ten k n f)
    ∙ ap (λ s. s ++ digit (n % 10)) (spelled (suc k) most (n / 10) (omega (arith, ten k n f)) (fewer k n f))
    ∙ ap (λ s. last_digits 10 (suc k) (n / 10) ++ s) (last-digit n)

pub decimal-digits : (k n : ℕ) → IsDigitCount 10 1 n k → decimal n ≡ last_digits 10 k n
unfolding decimal
decimal-digits k n f = spelled k n n (omega arith) f

-- a number below 10 ^ (suc k) has at most suc k digits
spell-length : (k most n : ℕ) → n < 10 ^ suc k → length (spell most n) ≤ suc k
unfolding spell
spell-length k zero n h = omega arith
spell-length zero (suc most) n h = rw (short (suc most) n h) (omega arith)
spell-length (suc k) (suc most) n h =
    elim (dec_lt n 10) [
      | yes l ↦ rw (short (suc most) n l) (omega arith)
      | no l ↦
          rw (long most n (omega arith))
          (omega (arith, spell-length k most (n / 10) (below (suc k) n h), length-append (spell most (n / 10)) (digit (n % 10))))
    ]

pub decimal-length : (k n : ℕ) → n < 10 ^ suc k → length (decimal n) ≤ suc k
unfolding decimal
decimal-length k n h = spell-length k n n h

-- what `io::decimal` leaves in its buffer
pub spelled_out : (k n : ℕ) (out : List ℕ) → IsDigitCount 10 1 n k → take k out ≡ last_digits 10 k n → decimal n ≡ take k out
spelled_out k n out f e = decimal-digits k n f ∙ sym e
