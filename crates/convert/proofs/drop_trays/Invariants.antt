-- `convert::drop_trays` meets its contract: the front of the buffer is what the records passed leave. Assumes nothing.
use Prim.Native.Nat.{◌*◌, ◌≤◌}
use Rattle.convert.specs.Converted.{no_tray}
use Rattle.records.proofs.Keeps.{Written}
use Rattle.convert.proofs.drop_trays.Given as goal

abbrev pub invariant-loop-i : goal.invariant-loop-i
invariant-loop-i l =
    (l.at ≤ 6 * l.i) × Written no_tray l.book l.initial.out l.i l.out l.at
