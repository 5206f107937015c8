-- The byte of an answer: document 01's 1 FOLLOWS, 2 DENIED, 3 OPEN. Assumes nothing.
use Rattle.std.specs.Prelude.{ℕ}
use Rattle.verdicts.specs.declared.Answer.{Answer}
use Rattle.verdicts.specs.declared.Answer.TheVariants.{Follows, Denied, Open}

abbrev pub answer_byte : Answer → ℕ
answer_byte Follows = 1
answer_byte Denied = 2
answer_byte Open = 3
