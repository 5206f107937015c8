-- A list written at the start of n elements, with d in those after it.
-- Assumes nothing.
use Rattle.std.specs.Prelude.{List, ◌++◌, ℕ, ◌-◌, length, replicate}

unfoldable pub padded : {A : Type 0} → A → ℕ → List A → List A
padded d n l = l ++ replicate (n - length l) d
