-- `checks::mark` meets its contract. Assumes nothing.
use Prim.Native.Nat.{◌%◌}
use native.Mathlib.Omega.{arith}
use Rattle.records.proofs.Filters.{one_shl, read-bit, marked}
use Rattle.records.proofs.checks.mark.Goals as goal

pub returns : goal.returns
returns c = (read-bit _ _, rw (one_shl (c.args.k % 64) (omega arith)) (marked _ _ (omega arith)))
