-- What the inner functions of the call promise each other. Assumes nothing.
use Rattle.std.specs.Prelude.{ℕ, ◌+◌, ◌*◌, ◌<◌, ◌≤◌, ◌≡◌, false, List, length, get_or, Ok}
use Rattle.rules.specs.Follows.{clash}
use Rattle.records.specs.Facts.{facts}
use Rattle.records.specs.Marked.{marked}
use Rattle.records.specs.Check.{book_check}
use Rattle.closure.specs.Void.{void_of, Voids}
use Rattle.closure.specs.Stepped.{Stepped}
use Rattle.closure.specs.Closed.{Holds, part_bit}
use Rattle.closure.specs.Apart.{Aparts}
use Rattle.outcomes.specs.Call.{by_runs}
use Rattle.replicates.specs.declared.Window.{Window}
use Rattle.replicates.specs.declared.Replicated.{Replicated}
use Rattle.replicates.specs.Log.{entry_count, entry_at}
use Rattle.replicates.specs.Call.{by_part, left, handed_back}

-- a window and a part that rows 20 and 21 let pass
pub record Fits (n : ℕ) (w : Window) (log : List ℕ) : Type 0 where
  pub few : entry_count log ≤ 32768
  pub short : w.count ≤ 31
  pub window : (j : ℕ) → j < w.count → get_or w.pieces j 0 < n
  pub entries : (i : ℕ) → i < entry_count log → entry_at log i < n

-- a book that is not contradictory: its marks, steps and D
pub record Free (s : List ℕ) (n : ℕ) (voids e order lead d : List ℕ) : Type 0 where
  pub sound : book_check s ≡ Ok n
  pub void : Voids voids × (void_of voids ≡ marked s)
  pub free : false ≡ clash (void_of voids) n (facts s)
  pub steps : Stepped n (facts s) e order lead
  pub parts : Holds n d (part_bit n (facts s))

-- the rows of what is APART in a book, a window and a part that fit, and room for the bytes
pub record Writable (s : List ℕ) (n : ℕ) (a : List ℕ) (w : Window) (log : List ℕ) (room : ℕ) : Type 0 where
  pub sound : book_check s ≡ Ok n
  pub aparts : Aparts (marked s) n (facts s) a
  pub fits : Fits n w log
  pub wide : 2 * entry_count log ≤ room

-- xs begins with the window, whose list has room for 31 pieces
pub record Begun (w : Window) (xs : List ℕ) : Type 0 where
  pub all : length w.pieces ≡ 31
  pub at : (j : ℕ) → j < w.count → get_or xs j 0 ≡ get_or w.pieces j 0

-- the part stands in xs from place c on, and before c nothing is written
pub record Followed (log : List ℕ) (c : ℕ) (xs xs' : List ℕ) : Type 0 where
  pub before : (j : ℕ) → j < c → get_or xs' j 0 ≡ get_or xs j 0
  pub at : (j : ℕ) → j < entry_count log → get_or xs' (c + j) 0 ≡ entry_at log j

-- the call behind rows 1 to 9
pub record Judged (s : List ℕ) (n : ℕ) (w : Window) (log out : List ℕ) (r : Replicated) (out' : List ℕ) : Type 0 where
  pub outcome-is : r.outcome ≡ by_part w log (by_runs s n)
  pub window-is : r.window ≡ handed_back w log r.outcome
  pub bytes-are : out' ≡ left s w log out r.outcome
