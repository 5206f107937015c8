-- `derivations::search::find_common` meets its contract. Assumes nothing.
use mathlib.Core.Path.{◌∙◌}
use native.Mathlib.Omega.{arith}
use Rattle.derivations.proofs.Searching.{common-void, common-both}
use Rattle.derivations.proofs.search.find_common.Goals as goal
use Rattle.derivations.proofs.search.find_common.Goals.{else-not-has-via-then-not-has+else-both, else-not-has-via-else-not-has}
use borrow.Author.Count.{below_more}

pub returns-then-both : goal.returns-then-both
returns-then-both c = (omega arith, common-both _ _ _ _ _ _ c.has.ensures c.if-not-has.true _ c.both.ensures ∙ c.if-both.true)

pub loop-x-preserved : goal.loop-x-preserved
loop-x-preserved c =
    below_more _ _ c.loop-x.invariant
    (elim c.else-not-has.branch [
      | else-not-has-via-then-not-has+else-both w ↦ common-both _ _ _ _ _ _ c.has.ensures w.if-not-has.true _ w.both.ensures ∙ w.if-both.false
      | else-not-has-via-else-not-has w ↦ common-void _ _ _ _ _ _ c.has.ensures w.if-not-has.false
    ])
