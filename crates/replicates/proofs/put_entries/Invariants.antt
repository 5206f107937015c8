-- `replicates::put_entries` meets its contract. Assumes nothing.
use Prim.Native.Nat.{ℕ, ◌+◌, ◌<◌}
use mathlib.Core.Path.{◌≡◌}
use lib.ListN.{get_or}
use Rattle.replicates.specs.Log.{entry_at}
use Rattle.replicates.proofs.put_entries.Given as goal

abbrev pub invariant-loop-i : goal.invariant-loop-i
invariant-loop-i l =
    ((j : ℕ) → j < l.c → get_or l.xs j 0 ≡ get_or l.initial.xs j 0) × ((j : ℕ) → j < l.i → get_or l.xs (l.c + j) 0 ≡ entry_at l.log j)
