-- What the writer of chains says: the answer, or the first refusal and its place. Assumes nothing.
use Rattle.std.specs.Prelude.{Result}
use Rattle.records.specs.declared.Refused.{Refused}
use Rattle.verdicts.specs.declared.Answer.{Answer}

abbrev pub Reply : Type 0
Reply = Result Answer Refused
