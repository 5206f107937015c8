-- `within::fill` meets its contract: by how many rows are not filled. Assumes nothing.
use mathlib.Core.Path.{◌≡◌}
use Prim.Native.Nat.{◌<◌, ◌-◌}
use lib.ListN.{length}
use Rattle.containment.specs.Filling.{Setting}
use Rattle.containment.proofs.Rows.{Started, Walking, unfilled}
use Rattle.containment.proofs.within.+fill.Given as goal

abbrev pub decreases-fill : goal.decreases-fill
decreases-fill l = unfilled l.rows.now

abbrev pub invariant-loop-q : goal.invariant-loop-q
invariant-loop-q l =
    (length l.rows ≡ 65536) × ((s : Setting l.places l.ends l.turned) (b : l.x < s.n) → Started s l.x b l.initial.rows → Walking s l.x b l.initial.rows l.rows l.end.0 l.q.0)

abbrev pub decreases-loop-q : goal.decreases-loop-q
decreases-loop-q l = l.end.0 - l.q.0
