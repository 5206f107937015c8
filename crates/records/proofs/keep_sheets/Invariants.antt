-- `records::keep_sheets` meets its contract: the front of the buffer is what the records passed leave. Assumes nothing.
use Prim.Native.Nat.{◌*◌, ◌≤◌}
use Rattle.records.specs.Kept.{on_sheet}
use Rattle.records.proofs.Keeps.{Written}
use Rattle.records.proofs.keep_sheets.Given as goal

abbrev pub invariant-loop-i : goal.invariant-loop-i
invariant-loop-i l = (l.at ≤ 6 * l.i) × Written on_sheet l.s l.initial.out l.i l.out l.at
