-- `parentheses::low_ones` meets its contract: the mask keeps the low bits, and the count counts them.
-- Assumes nothing.
use mathlib.Core.Path.{◌≡◌, ◌∙◌}
use mathlib.Core.List.{[], ◌∷◌}
use Prim.Native.Nat.{ℕ, ◌-◌, ◌*◌, ◌%◌, ◌^◌}
use native.Mathlib.Omega.{arith}
use lib.Bits.{bit_and, and_mask}
use Rattle.parentheses.specs.Bits.{bits}
use Rattle.parentheses.specs.Rank.{rank}
use Rattle.parentheses.proofs.Masks.{one_shl}
use Rattle.parentheses.proofs.Ranks.{byte-ones, rank-zero, rank-le, rank-low}
use Rattle.parentheses.proofs.low_ones.Goals as goal

masked : (b k : ℕ) → rank (bits (bit_and b (1 * 2 ^ bit_and k 7 % 256 - 1) ∷ [])) 8 ≡ rank (bits (b ∷ [])) (k % 8)
masked b k = rw (one_shl, and_mask b (k % 8)) (byte-ones (b % 2 ^ (k % 8)) ∙ rank-low b (k % 8) (omega arith))

pub returns : goal.returns
returns c =
    let b = c.args.b in
    let k = c.args.k in
    let low = bit_and b (1 * 2 ^ bit_and k 7 % 256 - 1) in
    let e : c.ones_in.result ≡ rank (bits (b ∷ [])) (k % 8) = omega (arith, c.ones_in.ensures, rank-zero (bits (low ∷ [])), masked b k) in
    (e, omega (arith, rank-le (bits (b ∷ [])) (k % 8)))
