-- `chain_steps::check_steps` meets its contract: the loop keeps that the steps passed are justified. Assumes nothing.
use mathlib.Core.Path.{◌≡◌}
use mathlib.Core.Bool.{true}
use Rattle.chain_format.specs.Citing.{citing}
use Rattle.chain_format.specs.Chain.{all_ok}
use Rattle.chain_format.proofs.chain_steps.check_steps.Given as goal

abbrev pub invariant-loop-i : goal.invariant-loop-i
invariant-loop-i l = (all_ok l.n (citing l.claim l.book) l.c l.i ≡ true)
