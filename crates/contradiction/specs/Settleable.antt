-- What settling a book with its index asks for. Assumes nothing.
use Rattle.std.specs.Prelude.{ℕ, ◌/◌, List, length}
use Rattle.records.specs.Facts.{facts}
use Rattle.closure.specs.Bounded.{Bounded}
use Rattle.closure.specs.Void.{Markable}
use Rattle.contradiction.specs.Roomy.{Roomy}

-- a run about n pieces whose marks are a row of bits, and parts of these lengths with room for its index
pub record Settleable (n : ℕ) (run : List ℕ) (bytes mark_bytes shadow_count place_count : ℕ) : Type 0 where
  pub bounded : Bounded n (facts run)
  pub markable : Markable run
  pub roomy : Roomy n (length run / 6) bytes mark_bytes shadow_count place_count
