-- What a catalog comes to: the counts of what was written, or the first refusal and its place. Assumes nothing.
use Rattle.std.specs.Prelude.{Result}
use Rattle.records.specs.declared.Refused.{Refused}
use Rattle.catalog.specs.declared.Counts.{Counts}

abbrev pub Listing : Type 0
Listing = Result Counts Refused
