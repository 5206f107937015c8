-- `certain::part_from` meets its contract: the invariant is that row 0 has the bits of the records passed. Assumes nothing.
use mathlib.Core.Path.{◌≡◌}
use lib.ListN.{length}
use Rattle.catalog.specs.Tells.{Parted}
use Rattle.catalog.proofs.certain.part_from.Given as goal

abbrev pub invariant-loop-i : goal.invariant-loop-i
invariant-loop-i l = (length l.m ≡ 65536) × Parted l.d l.run l.g l.i l.m
