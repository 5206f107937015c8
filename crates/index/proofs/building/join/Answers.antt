-- `building::join` meets its contract: the joins of the pieces below `p` are made.
-- Assumes nothing.
use native.Mathlib.Omega.{arith}
use Rattle.index.proofs.Joins.{join-done}
use Rattle.index.proofs.building.join.Goals as goal

pub returns : goal.returns
returns c = let L = c.loop-p in join-done _ _ c.requires.0 L.edges L.p (omega arith) L.invariant.3
