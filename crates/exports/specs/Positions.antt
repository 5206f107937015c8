-- Answers as C gets them. Assumes nothing.
use Rattle.std.specs.Prelude.{ℕ, ◌≡◌, Option}
use Rattle.std.specs.Option.{unwrap_or}

-- a position that may be missing
abbrev pub position_of : ℕ → Option ℕ → ℕ
position_of end p = unwrap_or p end

-- r is x where D holds, and y elsewhere
abbrev pub Either : {A : Type 0} → Type 0 → A → A → A → Type 0
Either D r x y = (D → r ≡ x) × ((D → ⊥) → r ≡ y)
