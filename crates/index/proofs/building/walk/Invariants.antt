-- `building::walk` meets its contract: each turn enters a part of c or leaves c, and writes what that asks.
-- Assumes nothing.
use lib.ListN.{length}
use Rattle.index.specs.Matrix.{pair_of}
use Rattle.index.specs.Steps.{Walkable}
use Rattle.index.proofs.Walking.{left, Walking}
use Rattle.index.proofs.building.walk.Given as goal

abbrev pub invariant-loop-from : goal.invariant-loop-from
invariant-loop-from l =
    Walkable l.n l.edges l.parent (length l.initial.parens) (length l.initial.marks) (length l.initial.shadows) (length l.initial.places)
    × Walking l.n (pair_of l.n l.edges) (length l.initial.parens) (length l.initial.marks) (length l.initial.shadows) (length l.initial.places) l.parens l.marks l.shadows l.places l.c.0 l.from l.at l.k.0 l.m

abbrev pub decreases-loop-from : goal.decreases-loop-from
decreases-loop-from l = left l.n (pair_of l.n l.edges) l.c.0 l.from
