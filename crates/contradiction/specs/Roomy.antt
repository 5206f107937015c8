-- The room that the index of a list of facts takes. Assumes nothing.
use Rattle.std.specs.Prelude.{ℕ, ◌+◌, ◌*◌, ◌≤◌}

-- lent parts of these lengths have room for the index of so many records about n pieces
pub record Roomy (n count bytes mark_bytes shadow_count place_count : ℕ) : Type 0 where
  pub few : count ≤ 8192
  pub parens : count + n ≤ 4 * bytes
  pub marks : count + n ≤ 8 * mark_bytes
  pub shadows : count ≤ shadow_count
  pub places : n ≤ place_count
