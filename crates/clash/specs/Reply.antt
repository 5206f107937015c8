-- What the writer of the chain behind a contradiction says: that there is none, or the first refusal and its place. Assumes nothing.
use Rattle.std.specs.Prelude.{Result}
use Rattle.records.specs.declared.Refused.{Refused}

abbrev pub Reply : Type 0
Reply = Result (Unit {0}) Refused
