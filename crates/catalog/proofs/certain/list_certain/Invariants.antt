-- `certain::list_certain` meets its contract: the invariant is that the pieces below x are listed. Assumes nothing.
use Prim.Native.Nat.{◌≤◌}
use Rattle.closure.specs.Void.{void_of}
use Rattle.catalog.specs.Tells.{told}
use Rattle.areas.proofs.Lists.{Listed}
use Rattle.catalog.proofs.certain.list_certain.Given as goal

abbrev pub invariant-loop-x : goal.invariant-loop-x
invariant-loop-x l =
    (l.count ≤ l.x) × Listed (told (void_of l.voids) l.d l.t l.m l.kind l.g) l.x l.initial.list l.list l.count
