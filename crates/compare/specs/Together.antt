-- The second book behind the first in one run. Assumes nothing.
use Rattle.std.specs.Prelude.{ℕ, ◌≤◌, ◌≡◌, List, ◌++◌, length, take}

-- a run of two books, one behind the other, where both are as short as a book is
pub record Together (s t run : List ℕ) : Type 0 where
  pub are : length s ≤ 49152 → length t ≤ 49152 → run ≡ s ++ t

-- the first k bytes of a buffer are such a run
pub record Joins (s t run : List ℕ) (k : ℕ) : Type 0 where
  pub fits : k ≤ length run
  pub front : Together s t (take k run)
