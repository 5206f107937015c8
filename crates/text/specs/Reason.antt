-- The numbers of the reasons why a text cannot be read. Assumes nothing.
use Rattle.std.specs.Prelude.{ℕ}
use Rattle.text.specs.declared.Reason.{Reason}
use Rattle.text.specs.declared.Reason.TheVariants.{NotKind, NotNumber, NotChoice, WordTooMany, TooLong}

abbrev pub reason_number : Reason → ℕ
reason_number NotKind = 1
reason_number NotNumber = 2
reason_number NotChoice = 3
reason_number WordTooMany = 4
reason_number TooLong = 5
