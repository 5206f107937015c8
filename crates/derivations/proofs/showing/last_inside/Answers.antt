-- `showing::last_inside` meets its contract: the loop keeps `Walking`. Assumes nothing.
use mathlib.Core.Path.{sym, ◌∙◌}
use native.Mathlib.Omega.{arith}
use Rattle.derivations.proofs.Commoning.{walk-done, walk_end, walk_up, walk-in, walk-out}
use Rattle.derivations.proofs.showing.last_inside.Goals as goal
use Rattle.derivations.proofs.showing.last_inside.Goals.{then-test, else-test}

pub returns-then-y-a : goal.returns-then-y-a
returns-then-y-a c = walk-done c.loop-taken.invariant c.if-y-a.true

pub test-requires : goal.test-requires
test-requires c = (c.requires.1, c.requires.2, c.requires.5 _ (walk_up c.loop-taken.invariant c.if-y-a.false _ c.from-y.ensures))

pub loop-taken-preserved : goal.loop-taken-preserved
loop-taken-preserved c =
    elim c.if-test.branch [
      | then-test w ↦ rw w.last-is (walk-in c.loop-taken.invariant c.if-y-a.false _ c.from-y.ensures (sym c.test.ensures ∙ w.if-test.true))
      | else-test w ↦ rw w.last-is (walk-out c.loop-taken.invariant c.if-y-a.false _ c.from-y.ensures (sym c.test.ensures ∙ w.if-test.false))
    ]

pub returns : goal.returns
returns c = walk_end c.loop-taken.invariant (omega arith)
