-- `groups::arrange` meets its contract. Assumes nothing.
use mathlib.Core.Path.{◌≡◌}
use Prim.Native.Nat.{◌≤◌}
use lib.ListN.{length}
use Rattle.groups.proofs.Arranging.{Arranging}
use Rattle.groups.proofs.arrange.Given as goal

abbrev pub invariant-loop-g : goal.invariant-loop-g
invariant-loop-g l =
    ((l.n ≤ 2048) × (l.g ≤ l.n) × (l.j ≤ l.g) × (length l.order ≡ 2048)) × Arranging l.n l.m l.done l.lead l.order l.j l.g
