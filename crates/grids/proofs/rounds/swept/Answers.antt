use borrow.Author.Rules.{rules}
use native.Mathlib.Omega.{arith}
use Rattle.grids.proofs.Sweeps.{swept-more, all-swept}
use Rattle.grids.proofs.rounds.swept.Goals as goal

pub loop-g-preserved : goal.loop-g-preserved
loop-g-preserved c =
    (search rules, swept-more _ _ _ _ (search rules) (search rules) c.loop-g.invariant.1 c.gather.ensures)

pub returns : goal.returns
returns c = all-swept _ _ _ (omega arith) c.loop-g.invariant.1
