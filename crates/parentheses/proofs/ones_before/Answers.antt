-- `parentheses::ones_before` meets its contract.
-- Assumes nothing.
use mathlib.Core.Path.{◌≡◌, ap}
use Prim.Native.Nat.{◌+◌, ◌*◌, ◌/◌, ◌%◌}
use native.Mathlib.Omega.{arith}
use Rattle.parentheses.specs.Bits.{bits}
use Rattle.parentheses.specs.Rank.{rank}
use Rattle.parentheses.proofs.Masks.{low3}
use Rattle.parentheses.proofs.Ranks.{rank-zero, rank-byte}
use Rattle.parentheses.proofs.ones_before.Goals as goal

pub returns-then-k-eq0 : goal.returns-then-k-eq0
returns-then-k-eq0 c =
    let l = c.args.bytes.now in
    let k = c.args.k in
    let e : 8 * (k / 8) ≡ k = omega (arith, low3 k) in
    omega (arith, c.ones_in-n.ensures, rank-zero (bits l), ap (rank (bits l)) e)

pub returns : goal.returns
returns c =
    let l = c.args.bytes.now in
    let k = c.args.k in
    let split : 8 * (k / 8) + k % 8 ≡ k = omega arith in
    omega (
      arith,
      c.ones_in-n.ensures,
      rank-zero (bits l),
      ap (rank (bits l)) split,
      rank-byte l (k / 8) (k % 8) (omega (arith, low3 k)) (omega arith),
    )
