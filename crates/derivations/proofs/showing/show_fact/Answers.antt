-- `showing::show_fact` meets its contract: the route of the fact's kind, from the base. Assumes nothing.
use Rattle.derivations.proofs.Carries.{route-carried, route-leads, route-spans}
use Rattle.derivations.proofs.showing.show_fact.Goals as goal

pub carry-requires : goal.carry-requires
carry-requires c =
    let l = route-leads c.route_to-route.ensures c.requires.3 in (c.requires.0, c.requires.1, route-carried c.route_to-route.ensures c.requires.3 c.requires.2, l.0, l.1, c.requires.4, c.requires.5)

pub returns : goal.returns
returns c = route-spans c.route_to-route.ensures c.requires.3.carriable c.requires.2 c.carry.ensures
