-- A buffer of which a part is written and the rest is as it was. Assumes nothing.
use Rattle.std.specs.Prelude.{◌+◌, ℕ, List, ◌++◌, length, take, drop}

-- xs at the front
unfoldable pub front : {A : Type 0} → List A → List A → List A
front xs l = xs ++ drop (length xs) l

-- xs from place i on
unfoldable pub placed : {A : Type 0} → ℕ → List A → List A → List A
placed i xs l = take i l ++ xs ++ drop (i + length xs) l
