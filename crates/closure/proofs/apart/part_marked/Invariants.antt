-- `closure::apart::part_marked` meets its contract: the invariant is the marks of the pieces passed. Assumes nothing.
use Prim.Native.Nat.{◌≤◌}
use mathlib.Core.Path.{◌≡◌}
use lib.ListN.{length}
use Rattle.closure.specs.Void.{void_of}
use Rattle.closure.specs.Closed.{Grown}
use Rattle.closure.specs.Apart.{marked_apart}
use Rattle.closure.proofs.apart.part_marked.Given as goal

abbrev pub invariant-loop-i : goal.invariant-loop-i
invariant-loop-i l = (l.i ≤ l.n) × (length l.m ≡ length l.initial.m) × Grown l.initial.m l.m (marked_apart (void_of l.voids) l.i)
