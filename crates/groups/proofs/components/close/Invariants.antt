use Prim.Native.Nat.{◌≤◌}
use Rattle.groups.specs.Search.{Numbered}
use Rattle.groups.proofs.components.close.Given as goal

abbrev pub invariant-loop-i : goal.invariant-loop-i
invariant-loop-i l = (l.at ≤ l.i) × (l.i ≤ l.len) × Numbered l.pieces l.initial.done l.done l.at l.i l.count
