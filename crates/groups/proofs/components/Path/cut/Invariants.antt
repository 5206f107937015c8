use Prim.Native.Nat.{ℕ, ◌<◌, ◌≤◌}
use lib.ListN.{get_or}
use Rattle.groups.proofs.components.Path.cut.Given as goal

abbrev pub invariant-loop-t : goal.invariant-loop-t
invariant-loop-t l = (l.t ≤ l.self.top) × ((k : ℕ) → l.t ≤ k → k < l.self.top → l.p < get_or l.self.bounds k 0)
