-- `showing::show_outside` meets its contract: u APART v carried to b, a MEETS v, and rule (d'). Assumes nothing.
use native.Mathlib.Omega.{arith}
use Rattle.derivations.proofs.Carries.{outside-apart, outside-outlies}
use Rattle.derivations.proofs.showing.show_outside.Goals as goal

pub show_meeting-j-requires : goal.show_meeting-j-requires
show_meeting-j-requires c =
    let o = outside-apart c.requires.1 c.requires.2 c.put_step.ensures c.show_lift-i.ensures in (c.requires.0, c.requires.5, c.requires.3, c.requires.4, c.requires.6, c.requires.9, c.requires.10, c.requires.11, c.requires.8, c.requires.14, c.requires.15, omega (arith, o.edited.sized, c.requires.16), omega (arith, o.few))

pub overflow_sub-i : goal.overflow_sub-i
overflow_sub-i c =
    let o = outside-apart c.requires.1 c.requires.2 c.put_step.ensures c.show_lift-i.ensures in omega (arith, o.more)

pub put_step-requires-2 : goal.put_step-requires-2
put_step-requires-2 c =
    let o = outside-apart c.requires.1 c.requires.2 c.put_step.ensures c.show_lift-i.ensures in let w = c.show_meeting-j.ensures.writes in (omega (arith, o.edited.sized, w.edited.sized, o.few, w.few, c.requires.16), omega (arith, c.requires.11, c.requires.0.small), omega (arith, c.requires.12, c.requires.0.small), omega (arith, o.few, w.few), omega (arith, o.few))

pub overflow_add-result : goal.overflow_add-result
overflow_add-result c =
    let o = outside-apart c.requires.1 c.requires.2 c.put_step.ensures c.show_lift-i.ensures in let w = c.show_meeting-j.ensures.writes in omega (arith, o.few, w.few)

pub returns : goal.returns
returns c =
    outside-outlies c.requires.1 c.requires.2 c.put_step.ensures c.show_lift-i.ensures c.requires.11 c.requires.12 c.show_meeting-j.ensures c.put_step-2.ensures
