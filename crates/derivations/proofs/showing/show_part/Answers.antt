-- `showing::show_part` meets its contract: the hops, their records, and the steps along them. Assumes nothing.
use native.Mathlib.Omega.{arith}
use Rattle.derivations.proofs.Linked.{reaches, contained-reached}
use Rattle.derivations.proofs.showing.show_part.Goals as goal

pub write_part-requires : goal.write_part-requires
write_part-requires c =
    (c.find_hops.ensures.sized, c.find_sources.ensures.sized, c.requires.4, c.requires.5, omega (arith, c.requires.0.small, c.requires.1), reaches c.requires.0 c.requires.1 c.requires.2 c.find_hops.ensures c.requires.3)

pub returns : goal.returns
returns c =
    contained-reached c.requires.0 c.requires.1 c.requires.2 c.find_hops.ensures c.requires.3 c.find_sources.ensures c.write_part.ensures
