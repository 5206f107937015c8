-- `parentheses::passable` meets its contract.
-- Assumes nothing.
use Prim.Native.Nat.{◌*◌}
use native.Mathlib.Omega.{arith}
use Rattle.parentheses.specs.Bits.{bits}
use Rattle.parentheses.proofs.Closes.{stays-deep}
use Rattle.parentheses.proofs.passable.Goals as goal

pub returns-then-depth-gt-DEEP : goal.returns-then-depth-gt-DEEP
returns-then-depth-gt-DEEP c =
    let a = c.args in
    (omega arith, stays-deep (bits a.bytes.now) (8 * a.i) (8 * c.run.result) a.depth (omega arith))
