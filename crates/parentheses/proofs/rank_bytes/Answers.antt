-- `parentheses::rank_bytes` meets its contract: as many entries are right as bytes were counted. Assumes nothing.
use mathlib.Core.Path.{◌≡◌, sym}
use Prim.Native.Nat.{◌+◌, ◌*◌, ◌<◌}
use native.Mathlib.Omega.{arith}
use Rattle.parentheses.specs.Bits.{bits}
use Rattle.parentheses.specs.Rank.{rank}
use Rattle.parentheses.proofs.Ranks.{rank-zero, rank-le}
use Rattle.parentheses.proofs.Rankings.{counted_none}
use Rattle.parentheses.proofs.rank_bytes.Goals as goal

pub loop-i-init : goal.loop-i-init
loop-i-init c = (sym (rank-zero _), counted_none c.args.bytes.now c.args.ranks.now (omega arith))

pub overflow_add-ones : goal.overflow_add-ones
overflow_add-ones c =
    let sum : c.loop-i.ones + c.ones_in-ones.result ≡ rank (bits c.args.bytes.now) (8 * (c.loop-i.i + 1)) = omega (arith, c.loop-i.invariant.0, c.ones_in-ones.ensures.0) in
    let fit : c.loop-i.ones + c.ones_in-ones.result < 65536 = omega (arith, sum, rank-le (bits c.args.bytes.now) (8 * (c.loop-i.i + 1))) in
    omega (arith, fit)

pub overflow_cast-ranks : goal.overflow_cast-ranks
overflow_cast-ranks c =
    let sum : c.loop-i.ones + c.ones_in-ones.result ≡ rank (bits c.args.bytes.now) (8 * (c.loop-i.i + 1)) = omega (arith, c.loop-i.invariant.0, c.ones_in-ones.ensures.0) in
    let fit : c.loop-i.ones + c.ones_in-ones.result < 65536 = omega (arith, sum, rank-le (bits c.args.bytes.now) (8 * (c.loop-i.i + 1))) in
    omega (arith, fit)
