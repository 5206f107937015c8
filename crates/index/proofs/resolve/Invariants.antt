-- `index::resolve` meets its contract: the shadows before `j` have their places.
-- Assumes nothing.
use Prim.Native.Nat.{◌≤◌}
use Rattle.index.specs.Steps.{Resolvable, Resolved}
use Rattle.index.proofs.resolve.Given as goal

abbrev pub invariant-loop-j : goal.invariant-loop-j
invariant-loop-j l = Resolvable l.initial.shadows l.groups l.m × (l.j ≤ l.m) × Resolved l.initial.shadows l.groups l.j l.shadows
