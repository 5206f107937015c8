use mathlib.Core.Path.{◌≡◌}
use Prim.Native.Nat.{◌≤◌}
use lib.ListN.{length}
use Rattle.containment.proofs.Pieces.{Turned}
use Rattle.containment.proofs.number_nodes.Given as goal

abbrev pub invariant-loop-g : goal.invariant-loop-g
invariant-loop-g l = (l.g ≤ l.n) × (length l.turned ≡ length l.initial.turned) × Turned l.places l.lead l.turned l.g
