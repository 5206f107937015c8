-- `text::words::run_end` meets its contract: what is passed and what is left of the run make the whole. Assumes nothing.
use Prim.Native.Nat.{◌+◌}
use mathlib.Core.Path.{◌≡◌}
use lib.ListN.{length, drop}
use Rattle.text.specs.Runs.{of_sort, run}
use Rattle.text.proofs.words.run_end.Given as goal

abbrev pub invariant-loop-i : goal.invariant-loop-i
invariant-loop-i l = l.i + length (run (of_sort l.sort) (drop l.i l.l)) ≡ l.from + length (run (of_sort l.sort) (drop l.from l.l))
