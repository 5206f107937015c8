-- `index::mark_held` meets its contract: the parts of the pieces below `c` are marked.
-- Assumes nothing.
use mathlib.Core.Path.{◌≡◌}
use Prim.Native.Nat.{◌≤◌}
use lib.ListN.{length}
use Rattle.index.specs.Steps.{Held}
use Rattle.index.proofs.mark_held.Given as goal

abbrev pub invariant-loop-c : goal.invariant-loop-c
invariant-loop-c l = (l.c ≤ l.n) × (length l.held ≡ length l.initial.held) × Held l.c l.edges l.held
