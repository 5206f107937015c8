-- A position that may be missing.
-- Assumes nothing.
use Rattle.std.specs.Prelude.{true, false, ℕ, ltb, Option, Some, None}

-- the position p, where it is below e
unfoldable pub found_below : ℕ → ℕ → Option ℕ
found_below e p = elim (ltb p e) [ true ↦ Some p | false ↦ None ]
