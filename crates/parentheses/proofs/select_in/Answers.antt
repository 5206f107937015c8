-- `parentheses::select_in` meets its contract: `left` ones are to pass of those from `at` on.
-- Assumes nothing.
use mathlib.Core.Path.{◌≡◌, ap}
use mathlib.Core.List.{[], ◌∷◌}
use Prim.Native.Nat.{◌/◌, ◌^◌}
use native.Mathlib.Omega.{arith}
use lib.Bits.{mask_lt}
use Rattle.parentheses.specs.Bits.{bits}
use Rattle.parentheses.specs.Rank.{rank}
use Rattle.parentheses.proofs.Ranks.{rank-zero, rank-bit, byte-ones}
use Rattle.parentheses.proofs.select_in.Goals as goal

pub loop-at-init : goal.loop-at-init
loop-at-init c = omega (arith, rank-zero (bits (c.args.b ∷ [])))

pub returns-then-left-bit : goal.returns-then-left-bit
returns-then-left-bit c =
    let b = c.args.b in
    let at = c.loop-at.at in
    omega (arith, mask_lt (b / 2 ^ at) 1, rank-bit b at (omega arith))

pub loop-at-preserved : goal.loop-at-preserved
loop-at-preserved c = omega (arith, rank-bit c.args.b c.loop-at.at (omega arith))

pub returns : goal.returns
returns c =
    let b = c.args.b in
    let e : c.loop-at.at ≡ 8 = omega arith in
    absurd (omega (arith, byte-ones b, ap (rank (bits (b ∷ []))) e))
