-- `replicates::check_entries` meets its contract: the loop keeps what is left of the scan. Assumes nothing.
use Rattle.replicates.proofs.Rows.{Left}
use Rattle.replicates.proofs.check_entries.Given as goal

abbrev pub invariant-loop-i : goal.invariant-loop-i
invariant-loop-i l = Left l.counts.pieces l.counts.nodes l.counts.shadows l.log l.i
