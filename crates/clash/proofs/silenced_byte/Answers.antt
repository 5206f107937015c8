-- `clash::silenced_byte` meets its contract. Assumes nothing.
use native.Mathlib.Omega.{arith}
use Rattle.clash.proofs.Silencing.{silenced-same, silenced-five, inner, early, low, high, later-fact}
use Rattle.clash.proofs.silenced_byte.Goals as goal
use Rattle.clash.proofs.silenced_byte.Goals.{then-p-ne0-via-then-p-ne0, then-p-ne0-via-else-p-ne0+then-p-i}

pub returns-then-p-ne0 : goal.returns-then-p-ne0
returns-then-p-ne0 c =
    elim c.then-p-ne0.branch [
      | then-p-ne0-via-then-p-ne0 w ↦ silenced-same _ _ _ (inner _ _ _ w.if-p-ne0.true)
      | then-p-ne0-via-else-p-ne0+then-p-i w ↦ silenced-same _ _ _ (early _ _ _ w.if-p-i.true)
    ]

pub returns-in-1-to-4 : goal.returns-in-1-to-4
returns-in-1-to-4 c = silenced-five _ _ _ (later-fact _ _ _ (omega arith) (omega arith) (omega arith) (omega arith))

pub returns-in_default : goal.returns-in_default
returns-in_default c = silenced-same _ _ _ (low _ _ _ (omega arith))

pub returns-in_default-2 : goal.returns-in_default-2
returns-in_default-2 c = silenced-same _ _ _ (high _ _ _ (omega arith))
