-- The same records in another order: a permutation of the record numbers. Assumes nothing.
use Rattle.std.specs.Prelude.{ℕ, ◌<◌, ◌≡◌, List, length}
use Rattle.records.specs.Record.{records}
use Rattle.records.specs.Kept.{bytes_at}

-- record i of s is record `to i` of t, byte for byte, and `from` leads back: no record is lost, and none comes twice
pub record Reordered (s t : List ℕ) : Type 0 where
  pub long : length t ≡ length s
  pub to : ℕ → ℕ
  pub from : ℕ → ℕ
  pub to_in : (i : ℕ) → i < records s → to i < records s
  pub from_in : (i : ℕ) → i < records s → from i < records s
  pub from-to : (i : ℕ) → i < records s → from (to i) ≡ i
  pub to-from : (i : ℕ) → i < records s → to (from i) ≡ i
  pub same : (i : ℕ) → i < records s → bytes_at t (to i) ≡ bytes_at s i
