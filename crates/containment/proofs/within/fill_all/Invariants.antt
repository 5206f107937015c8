use mathlib.Core.Path.{◌≡◌}
use Prim.Native.Nat.{◌≤◌}
use lib.ListN.{length}
use Rattle.containment.specs.Filling.{Setting, Leads, All, FilledTo}
use Rattle.containment.proofs.within.fill_all.Given as goal

abbrev pub invariant-loop-g : goal.invariant-loop-g
invariant-loop-g l =
    (l.g ≤ l.n) × (length l.rows ≡ length l.initial.rows) × ((s : Setting l.places l.ends l.turned) → l.n ≡ s.n → Leads s l.lead → All s l.initial.rows → FilledTo s l.rows l.g)
