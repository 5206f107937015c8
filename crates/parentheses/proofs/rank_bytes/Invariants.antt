-- `parentheses::rank_bytes` meets its contract: as many entries are right as bytes were counted. Assumes nothing.
use mathlib.Core.Path.{◌≡◌}
use Prim.Native.Nat.{◌*◌}
use Rattle.parentheses.specs.Bits.{bits}
use Rattle.parentheses.specs.Rank.{rank}
use Rattle.parentheses.proofs.Rankings.{Counted}
use Rattle.parentheses.proofs.rank_bytes.Given as goal

abbrev pub invariant-loop-i : goal.invariant-loop-i
invariant-loop-i l =
    (l.ones ≡ rank (bits l.bytes) (8 * l.i)) × Counted l.bytes l.ranks l.i
