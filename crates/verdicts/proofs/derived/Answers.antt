-- `verdicts::derived` meets its contract, by the kind: a test of D, or a meeting of two rows. Assumes nothing.
use Rattle.verdicts.proofs.Answering.{derived-part, derived-apart, derived-meets, derived-notpart}
use native.Mathlib.Omega.{arith}
use Rattle.verdicts.proofs.derived.Goals as goal

pub returns-in-1 : goal.returns-in-1
returns-in-1 c = derived-part _ _ _ _ _ _ _ _ _ c.in-1.is c.test.ensures

pub returns-in-2 : goal.returns-in-2
returns-in-2 c = derived-apart _ _ _ _ _ _ _ _ _ c.in-2.is c.meet.ensures

pub returns-in-3 : goal.returns-in-3
returns-in-3 c = derived-meets _ _ _ _ _ _ _ _ _ c.in-3.is c.meet-in-3.ensures

pub returns-in_default : goal.returns-in_default
returns-in_default c =
    derived-notpart _ _ _ _ _ _ _ _ _ (λ e. omega arith) (λ e. omega arith) (λ e. omega arith) c.meet-in_default.ensures
