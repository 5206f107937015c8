-- `reading::place_of` meets its contract. Assumes nothing.
use mathlib.Core.Path.{◌≡◌}
use lib.ListN.{drop}
use Rattle.chain_pages.specs.Read.{place_in}
use Rattle.chain_pages.proofs.reading.place_of.Given as goal

abbrev pub invariant-loop-i : goal.invariant-loop-i
invariant-loop-i l = place_in l.i (drop l.i l.table) l.x ≡ place_in 0 l.table l.x
