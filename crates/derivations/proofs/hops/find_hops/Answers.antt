-- `hops::find_hops` meets its contract: hops are the parents of the search from k. Assumes nothing.
use mathlib.Core.Path.{◌∙◌}
use native.Mathlib.Omega.{arith}
use lib.ListN.{length}
use Rattle.index.proofs.Queue.{fresh-is}
use Rattle.derivations.proofs.Towards.{filled, hopped}
use Rattle.std.proofs.lemmas.Grind.{common_steps}
use lib.ListN.{replicate}
use mathlib.Core.Path.{◌≡◌}
use Rattle.derivations.proofs.hops.find_hops.Goals as goal

pub search_from-requires : goal.search_from-requires
search_from-requires c =
    let f : c.fill.new.self ≡ replicate (length c.args.hop.now) 2048 = grind (arith, common_steps) in
    (c.requires.0, c.requires.1, c.requires.2, c.fill.auto.self ∙ c.requires.3, c.requires.4, λ q h. fresh-is _ q (filled (length c.args.hop.now) 2048 f q (omega (arith, c.requires.1, c.requires.3))))

pub returns : goal.returns
returns c = hopped _ _ _ _ c.requires.1 c.search_from.ensures (c.search_from.auto.parent ∙ c.fill.auto.self ∙ c.requires.3)
