-- `derivations::search::find_record` meets its contract. Assumes nothing.
use Rattle.derivations.proofs.Serving.{record-small}
use Rattle.derivations.proofs.search.find_record.Goals as goal

pub serves-requires : goal.serves-requires
serves-requires c =
    (c.requires.0, c.requires.1, c.requires.2, c.requires.3, record-small _ c.requires.4 _ c.loop-i-test.true _ c.record_at.ensures)
