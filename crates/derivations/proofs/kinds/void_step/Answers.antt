-- `derivations::kinds::void_step` meets its contract. Assumes nothing.
use Rattle.derivations.proofs.Grounds.{mark-there}
use Rattle.derivations.proofs.kinds.void_step.Goals as goal

pub unwrap-i-requires : goal.unwrap-i-requires
unwrap-i-requires c = mark-there _ _ _ c.requires.0 c.find_mark.ensures
