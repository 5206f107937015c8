-- `showing::carry` meets its contract: a base, and two lifts where it does not show the fact already. Assumes nothing.
use mathlib.Core.Path.{sym, ◌∙◌}
use native.Mathlib.Omega.{arith}
use Rattle.derivations.proofs.Lifting.{carried-once, carried-twice, carried_none}
use Rattle.derivations.proofs.showing.carry.Goals as goal

pub returns-then-shows : goal.returns-then-shows
returns-then-shows c = carried_none c.requires.1 c.requires.2 c.put_step.ensures (sym c.shows.ensures ∙ c.if-shows.true)

pub show_lift-requires : goal.show_lift-requires
show_lift-requires c =
    let o = carried-once c.requires.1 c.requires.2 c.put_step.ensures c.show_lift-m.ensures in (c.requires.0, c.requires.4, omega (arith, o.edited.sized, c.requires.5), omega (arith, o.few, c.requires.6), omega (arith, o.more))

pub returns : goal.returns
returns c =
    carried-twice c.requires.1 c.requires.2 c.put_step.ensures c.show_lift-m.ensures c.show_lift.ensures (sym c.shows.ensures ∙ c.if-shows.false)
