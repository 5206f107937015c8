-- `showing::route_to` meets its contract: a row of the table. Assumes nothing.
use Rattle.derivations.proofs.Carries.{computed-apart, computed-meets, computed-notpart}
use native.Mathlib.Omega.{arith}
use Rattle.derivations.proofs.showing.route_to.Goals as goal

pub returns-in-2 : goal.returns-in-2
returns-in-2 c = computed-apart (omega arith) c.lift_to.ensures c.lift_to-in-2.ensures

pub returns-in-3 : goal.returns-in-3
returns-in-3 c = computed-meets (omega arith) (omega arith) c.lift_to-in-3.ensures c.lift_to-in-3-2.ensures

pub returns-in_default : goal.returns-in_default
returns-in_default c = computed-notpart (omega arith) (omega arith) c.lift_to-in_default.ensures c.lift_to-in_default-2.ensures
