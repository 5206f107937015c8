-- `components::search` meets its contract. Assumes nothing.
use mathlib.Core.Bool.{false}
use native.Mathlib.Omega.{arith}
use Rattle.groups.proofs.Steps.{first-call, first_good, all_done}
use Rattle.groups.proofs.components.search.Goals as goal

pub visit-requires : goal.visit-requires
visit-requires c = first-call c.args.n c.args.e.now 2048 c.requires

pub returns : goal.returns
returns c =
    all_done c.args.n c.args.e.now 2048 c.requires _
    (c.visit.ensures.1 (λ x. false) (first_good c.args.n c.args.e.now 2048 c.requires (λ x. false)) (λ i l. absurd (omega arith)))
