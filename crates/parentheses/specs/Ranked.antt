-- A table of ranks: how many ones stand before each byte, for as many bytes as it has entries. Assumes nothing.
use Rattle.std.specs.Prelude.{ℕ, ◌*◌, ◌<◌, ◌≤◌, ◌≡◌, List, length, get_or}
use Rattle.parentheses.specs.Bits.{bits}
use Rattle.parentheses.specs.Rank.{rank}

pub record Ranked (bytes ranks : List ℕ) : Type 0 where
  pub are : (i : ℕ) → i < length ranks → i ≤ length bytes → get_or ranks i 0 ≡ rank (bits bytes) (8 * i)
