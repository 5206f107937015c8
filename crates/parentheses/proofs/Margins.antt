-- Eight more than the lowest running excess of a byte, a natural number: what a whole byte leaves of the depth is at least this less eight.
-- Assumes nothing.
use mathlib.Core.Path.{◌≡◌, sym, ◌∙◌}
use mathlib.Core.Bool.{Bool}
use mathlib.Core.List.{List, [], ◌∷◌}
use Prim.Native.Nat.{ℕ, zero, suc, ◌+◌, ◌-◌, ◌*◌, ◌≤◌, ◌<◌, min}
use native.Mathlib.Decide.{ℕ_discrete}
use native.Mathlib.Omega.{arith}
use lib.IntN.{pos, ◌+ℤ◌}
use Rattle.lists.specs.Tab.{tab}
use Rattle.lists.proofs.Tabs.{tab-at}
use Rattle.parentheses.specs.Bits.{bits, bit_of, digit}
use Rattle.parentheses.specs.Rank.{rank}
use Rattle.parentheses.specs.Close.{excess}
use Rattle.parentheses.specs.Tables.{ones_of, lower, lowest, lowest_of}
use Rattle.parentheses.proofs.Ranks.{byte, byte-ones, rank-le}

-- eight more than the running excess after j bits
excess8 : List Bool → ℕ → ℕ
excess8 bs j = 2 * rank bs j + 8 - j

-- eight more than the lowest after at least one and at most n + 1 bits
low_to : List Bool → ℕ → ℕ
low_to bs zero = excess8 bs 1
low_to bs (suc n) = min (low_to bs n) (excess8 bs (suc (suc n)))

pub margin : ℕ → ℕ
margin b = low_to (bits (b ∷ [])) 7

-- the rule is that of the table of lowest excess: one test over the 256 bytes, which antt computes
pub margin-is : (b : ℕ) → b < 256 → lowest_of b +ℤ pos 8 ≡ pos (margin b)
unfolding margin low_to excess8 lowest_of lowest lower excess rank bits bit_of digit tab
margin-is b h = sym (tab-at (λ (x : ℕ). lowest_of x +ℤ pos 8) 256 b (pos 0) h) ∙ tab-at (λ (x : ℕ). pos (margin x)) 256 b (pos 0) h

pub margin-read : (b r : ℕ) → b < 256 → pos r ≡ lowest_of b +ℤ pos 8 → r ≡ margin b
margin-read b r h e = let p : pos r ≡ pos (margin b) = e ∙ margin-is b h in cc

-- it is at most that after each bit

low-le : (bs : List Bool) (n j : ℕ) → j ≤ n → low_to bs n ≤ excess8 bs (suc j)
unfolding low_to
low-le bs zero zero h = omega arith
low-le bs zero (suc j) h = absurd (omega arith)
low-le bs (suc n) j h = elim (ℕ_discrete j (suc n)) [ yes e ↦ rw e (omega arith) | no m ↦ omega (arith, low-le bs n j (omega arith)) ]

pub margin-le : (b j : ℕ) → j < 8 → margin b + suc j ≤ 2 * rank (byte b) (suc j) + 8
unfolding margin excess8
margin-le b j h = omega (arith, low-le (byte b) 7 j (omega arith))

pub margin-whole : (b : ℕ) → margin b ≤ 2 * ones_of b
margin-whole b = omega (arith, margin-le b 7 (omega arith), byte-ones b)

pub margin-small : (b : ℕ) → margin b ≤ 9
margin-small b = omega (arith, margin-le b 0 (omega arith), rank-le (byte b) 1)
