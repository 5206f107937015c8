-- The longest page of answers. Assumes nothing: these are definitions.
use Rattle.std.specs.Prelude.{ℕ}

-- an answer for each claim, and one more
abbrev pub ANSWERS-MOST : ℕ
ANSWERS-MOST = 4097

abbrev pub ANSWERS-ROOM : ℕ
ANSWERS-ROOM = 135285
