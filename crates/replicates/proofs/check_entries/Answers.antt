-- `replicates::check_entries` meets its contract: the loop keeps what is left of the scan. Assumes nothing.
use native.Mathlib.Omega.{arith}
use Rattle.replicates.proofs.Rows.{left-next, left-stop, left_end}
use Rattle.replicates.proofs.check_entries.Goals as goal

pub returns-then-counts-from : goal.returns-then-counts-from
returns-then-counts-from c =
    let A = c.args in rw c.at.ensures (left-stop A.counts.pieces A.counts.nodes A.counts.shadows A.log.now c.loop-i.i c.loop-i.invariant (omega arith) (omega (arith, c.entry_at.ensures, c.from.ensures)))

pub loop-i-preserved : goal.loop-i-preserved
loop-i-preserved c =
    let A = c.args in left-next A.counts.pieces A.counts.nodes A.counts.shadows A.log.now c.loop-i.i c.loop-i.invariant (omega arith) (omega (arith, c.entry_at.ensures, c.from.ensures))

pub returns : goal.returns
returns c = let A = c.args in left_end A.counts.pieces A.counts.nodes A.counts.shadows A.log.now c.loop-i.i c.loop-i.invariant (omega arith)
