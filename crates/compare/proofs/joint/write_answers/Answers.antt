-- `joint::write_answers` meets its contract. Assumes nothing.
use mathlib.Core.Path.{refl}
use native.Mathlib.Omega.{arith}
use Rattle.compare.proofs.Threes.{threes-none, threes-more}
use Rattle.compare.proofs.joint.write_answers.Goals as goal

pub loop-i-init : goal.loop-i-init
loop-i-init c = threes-none _ _ _

pub loop-i-preserved : goal.loop-i-preserved
loop-i-preserved c = threes-more _ _ _ _ _ _ _ _ (omega (arith, c.requires.1)) c.loop-i.invariant refl refl c.agreement_of.ensures
