-- `building::complete` meets its contract.
-- Assumes nothing.
use mathlib.Core.Path.{refl}
use Rattle.index.proofs.Walking.{cleared}
use Rattle.index.proofs.building.complete.Goals as goal

pub mark_held-requires : goal.mark_held-requires
mark_held-requires c = (c.requires.small, c.requires.matrix, refl, cleared 2048 refl)
