-- `relation::union_row` meets its contract: the words below i are joined, two a turn. Assumes nothing.
use mathlib.Core.Path.{◌≡◌}
use Prim.Native.Nat.{◌*◌}
use native.Mathlib.Omega.{arith}
use Rattle.matrices.proofs.Words.{united}
use Rattle.matrices.proofs.relation.union_row.Goals as goal

pub returns : goal.returns
returns c = let e : 2 * c.loop-pair.pair ≡ 32 = omega arith in united _ _ _ _ _ (rw e at c.loop-pair.invariant)
