use mathlib.Core.Path.{◌≡◌}
use Prim.Native.Nat.{◌≤◌}
use lib.ListN.{length}
use Rattle.parentheses.specs.Bits.{bits}
use Rattle.containment.proofs.Pieces.{Shadowed}
use Rattle.containment.proofs.number_shadows.Given as goal

abbrev pub invariant-loop-q : goal.invariant-loop-q
invariant-loop-q l =
    (l.q ≤ l.nodes) × (l.j ≤ l.q) × (length l.turned ≡ length l.initial.turned) × Shadowed (bits l.marks) l.shadows l.initial.turned l.turned l.q l.j
