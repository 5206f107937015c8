use Rattle.grids.proofs.Rows.{turned-onto_none}
use Rattle.grids.proofs.rounds.turned.Goals as goal

pub returns : goal.returns
returns c = record { bits = λ a k l m. turned-onto_none _ _ a k l (c.turned_onto.ensures.bits a k l m) }
