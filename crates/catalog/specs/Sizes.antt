-- What a catalog writes of a book that its rows let pass fits the lent list and areas, so that nothing is written behind them. Assumes nothing.
use Rattle.std.specs.Prelude.{◌≡◌, List, ℕ, ◌≤◌, length, drop, Ok}
use Rattle.records.specs.Check.{book_check}
use Rattle.areas.specs.Area.{filled}
use Rattle.catalog.specs.Call.{list_of, area_of}

-- the list of kind k and piece g has at most 2,048 numbers, and the area of kind k at most 8,192 pairs, so that what lies behind its first 16,384
-- numbers is as it was
pub record Sized (s : List ℕ) (n k : ℕ) : Type 0 where
  pub list-fits : (g : ℕ) → length (list_of s n k g) ≤ 2048
  pub area-fits : length (area_of s n k) ≤ 8192
  pub behind : (old : List ℕ) → drop 16384 (filled (area_of s n k) old) ≡ drop 16384 old

-- of every kind that a record states
abbrev pub CatalogFits : Type 0
CatalogFits = (s : List ℕ) (n : ℕ) → book_check s ≡ Ok n → (k : ℕ) → 1 ≤ k → k ≤ 4 → Sized s n k
