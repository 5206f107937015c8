-- `parentheses::ones_between` meets its contract. Assumes nothing.
use mathlib.Core.Path.{refl}
use native.Mathlib.Omega.{arith}
use Rattle.parentheses.proofs.Rankings.{ranks-rise, ranks-between}
use Rattle.parentheses.proofs.ones_between.Goals as goal

pub overflow_sub-ranks : goal.overflow_sub-ranks
overflow_sub-ranks c =
    ranks-rise c.args.bytes.now c.args.ranks.now c.requires.3 c.args.from c.args.to c.requires.0 c.requires.1 (omega arith) _ _ refl refl

pub returns : goal.returns
returns c =
    rw c.from.ensures (ranks-between c.args.bytes.now c.args.ranks.now c.requires.3 c.args.from c.args.to c.requires.0 c.requires.1 (omega arith) _ _ refl refl)
