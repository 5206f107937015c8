-- `records::record_at` meets its contract: the six bytes that were read are those of `record_at`. Assumes nothing.
use Rattle.records.proofs.Records.{read-record}
use Rattle.records.proofs.record_at.Goals as goal

pub returns : goal.returns
returns c = read-record _ _ _ _ c.number_at-a.ensures.0 c.number_at-b.ensures.0
