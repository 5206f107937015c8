-- `derivations::kinds::chain_for` meets its contract. Assumes nothing.
use Rattle.derivations.proofs.Chaining.{of_part, of-apart, of_meets, of-notpart}
use native.Mathlib.Omega.{arith}
use Rattle.derivations.proofs.kinds.chain_for.Goals as goal

pub returns-in-1 : goal.returns-in-1
returns-in-1 c = of_part _ _ _ (omega arith) c.chain_part.ensures

pub returns-in-2 : goal.returns-in-2
returns-in-2 c = of-apart _ _ _ (omega arith) c.chain_apart.ensures

pub returns-in-3 : goal.returns-in-3
returns-in-3 c = of_meets _ _ _ (omega arith) c.chain_meets.ensures

pub returns-in_default : goal.returns-in_default
returns-in_default c = of-notpart _ _ _ (omega arith) (omega arith) (omega arith) c.chain_notpart.ensures
