-- `parentheses::find_close_by` meets its contract: `depth` is the excess from `open` to before `p`, and what closes `open` is what a search from
-- there finds.
-- Assumes nothing.
use mathlib.Core.Path.{◌≡◌}
use Prim.Native.Nat.{◌+◌, ◌≤◌, ◌<◌}
use Rattle.parentheses.specs.Bits.{bits}
use Rattle.parentheses.specs.Close.{close}
use Rattle.parentheses.specs.Search.{closing}
use Rattle.parentheses.proofs.find_close_by.Given as goal

abbrev pub invariant-loop-p : goal.invariant-loop-p
invariant-loop-p l =
    (0 < l.depth) × (l.depth + l.open ≤ l.p) × (closing (bits l.bytes) l.p l.depth ≡ close (bits l.bytes) l.open)
