use mathlib.Core.Path.{◌≡◌}
use lib.ListN.{length}
use Rattle.grids.proofs.Sweeps.{Sweeping}
use Rattle.grids.proofs.rounds.swept.Given as goal

abbrev pub invariant-loop-g : goal.invariant-loop-g
invariant-loop-g l = (length l.r ≡ 64) × Sweeping l.initial.r l.r l.g
