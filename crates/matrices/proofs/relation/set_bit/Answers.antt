use native.Mathlib.Omega.{arith}
use mathlib.Core.Path.{refl}
use Prim.Native.Nat.{◌%◌}
use Rattle.matrices.proofs.Laws.{one_shl}
use Rattle.matrices.proofs.Words.{inserted}
use Rattle.matrices.proofs.relation.set_bit.Goals as goal

pub returns : goal.returns
returns c = rw (one_shl (c.args.i % 64) (omega arith)) (inserted _ _ _ _ refl (omega arith) (omega arith))
