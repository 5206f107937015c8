-- `showing::show_common` meets its contract: the hops to a, the last piece in b on the way, and two lifts. Assumes nothing.
use mathlib.Core.Path.{◌∙◌}
use native.Mathlib.Omega.{arith}
use Rattle.derivations.proofs.Linked.{reaches, upward-between}
use Rattle.derivations.proofs.Commoning.{last-low, last-inside, risen-writes, common-joined}
use Rattle.derivations.proofs.showing.show_common.Goals as goal

pub last_inside-g-requires : goal.last_inside-g-requires
last_inside-g-requires c =
    (c.find_hops.ensures.sized, c.requires.1.sized, omega (arith, c.requires.5, c.requires.0.small), (reaches c.requires.0 c.requires.3 c.requires.4 c.find_hops.ensures c.requires.6), c.requires.1.tells _ _ c.requires.3 c.requires.5 ∙ c.requires.7, λ y u. omega (arith, c.requires.0.small, (upward-between c.requires.0 c.requires.4 c.find_hops.ensures c.requires.3 u).present))

pub rise-m-requires : goal.rise-m-requires
rise-m-requires c =
    (c.find_hops.ensures.sized, c.find_sources.ensures.sized, omega (arith, c.put_step.ensures.edited.sized, c.requires.8), omega arith, omega (arith, c.requires.9), last-low c.requires.0 c.requires.1 c.requires.2 c.requires.3 c.requires.4 c.requires.5 c.find_hops.ensures c.last_inside-g.ensures, c.requires.4, c.requires.0.small, c.last_inside-g.ensures.reaches)

pub show_lift-requires : goal.show_lift-requires
show_lift-requires c =
    let w = risen-writes c.requires.0 c.requires.1 c.requires.2 c.requires.3 c.requires.4 c.requires.5 c.find_hops.ensures c.last_inside-g.ensures c.find_sources.ensures c.put_step.ensures c.rise-m.ensures in (c.requires.0, record { low = last-low c.requires.0 c.requires.1 c.requires.2 c.requires.3 c.requires.4 c.requires.5 c.find_hops.ensures c.last_inside-g.ensures; high = c.requires.5; inside = last-inside c.requires.0 c.requires.1 c.requires.2 c.requires.3 c.requires.4 c.requires.5 c.find_hops.ensures c.last_inside-g.ensures; left = c.requires.4; right = c.requires.5 }, omega (arith, w.edited.sized, c.requires.8), omega (arith, w.few, c.requires.9), omega (arith, w.more))

pub returns : goal.returns
returns c =
    common-joined c.requires.0 c.requires.1 c.requires.2 c.requires.3 c.requires.4 c.requires.5 c.find_hops.ensures c.last_inside-g.ensures c.find_sources.ensures c.put_step.ensures c.rise-m.ensures c.show_lift.ensures
