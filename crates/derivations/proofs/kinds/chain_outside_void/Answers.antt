-- `derivations::kinds::chain_outside_void` meets its contract. Assumes nothing.
use Rattle.derivations.proofs.Grounds.{mark-there}
use Rattle.derivations.proofs.Chaining.{outside-marked}
use Rattle.derivations.proofs.kinds.chain_outside_void.Goals as goal

pub unwrap-i-requires : goal.unwrap-i-requires
unwrap-i-requires c = mark-there _ _ _ c.requires.4 c.find_mark.ensures

pub returns : goal.returns
returns c =
    outside-marked c.requires.0 c.requires.1 c.requires.2 _ c.requires.3 c.find_mark.ensures c.unwrap-i.ensures c.put_step.ensures c.put_step-2.ensures c.put_step-3.ensures
