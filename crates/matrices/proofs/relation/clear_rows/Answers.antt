-- `matrices::relation::clear_rows` meets its contract: the words of the rows below n become 0. Assumes nothing.
use Prim.Native.Nat.{◌*◌}
use native.Mathlib.Omega.{arith}
use lib.ListN.{drop, length-take}
use Rattle.matrices.proofs.Cleared.{blank_front}
use Rattle.matrices.proofs.relation.clear_rows.Goals as goal

pub returns : goal.returns
returns c = rw c.clear.ensures (blank_front c.args.n _ (drop (c.args.n * 32) c.args.m.now) (omega (arith, length-take (c.args.n * 32) c.args.m.now)))
