-- Row 14 of a run with the marks of its book: what settling it finds. Assumes nothing.
use Rattle.contradiction.specs.Row14.{Row14, Settled, clashed_at, free_with}
use Rattle.std.specs.Prelude.{ℕ, ◌+◌, ◌≡◌, Bool, true, false, List, length, Err, Ok}
use Rattle.rules.specs.Follows as on
use Rattle.rules.specs.Entries.{shortest_clash}
use Rattle.records.specs.Facts.{entries, facts}
use Rattle.index.specs.Parts.{shadows}
use Rattle.groups.specs.Index.{book_visits, BookIndex}
use Rattle.records.specs.PartIn.{part_in}
use Rattle.closure.specs.Stepped.{Stepped}
use Rattle.contradiction.specs.Opened.{Opened}

-- row 14 of a run that was settled with its index
unfoldable pub row : Settled → Row14
row (Ok nodes) = (Ok tt)
row (Err place) = clashed_at place.place

-- a contradictory run, and the last record of its shortest contradictory run from the start
pub record Clashed (void : ℕ → Bool) (n : ℕ) (run : List ℕ) (place : ℕ) : Type 0 where
  pub is : true ≡ on.clash void n (facts run)
  pub last : place + 1 ≡ shortest_clash void n (entries run)

-- a free run has its D and T in what was lent; of a contradictory run the matrices say nothing
pub record Settles (void : ℕ → Bool) (n : ℕ) (run d t : List ℕ) (r : Row14) : Type 0 where
  pub free : r ≡ Ok tt → Opened void n (facts run) d t false
  pub clash : (place : ℕ) → r ≡ clashed_at place → Clashed void n run place

-- its steps too, in the order in which rows are joined
pub record Steps (n : ℕ) (run e order lead : List ℕ) (r : Row14) : Type 0 where
  pub free : r ≡ Ok tt → Stepped n (facts run) e order lead

-- and its index, where there is one
pub record Indexes (n : ℕ) (run parens marks shadows places : List ℕ) (r : Settled) : Type 0 where
  pub free : (nodes shadowed : ℕ) → r ≡ free_with nodes shadowed → BookIndex n (part_in (facts run)) parens marks shadows places nodes shadowed

-- or its counts alone
pub record Counts (n : ℕ) (run : List ℕ) (r : Settled) : Type 0 where
  pub free : (nodes shadowed : ℕ) → r ≡ free_with nodes shadowed → (nodes ≡ length (book_visits n (part_in (facts run)))) × (shadowed ≡ length (shadows (book_visits n (part_in (facts run)))))
