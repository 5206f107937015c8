-- `row_14::settle_counted` meets its contract. Assumes nothing.
use Rattle.contradiction.proofs.SettlingLaws.{settleable}
use Rattle.contradiction.proofs.row_14.settle_counted.Goals as goal

pub settle-requires : goal.settle-requires
settle-requires c = (settleable _ _ c.requires.0, c.requires.1)
