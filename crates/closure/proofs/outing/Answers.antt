-- `closure::outing` meets its contract: what is joined along the steps is N and M·P, by `spread`. Assumes nothing.
use mathlib.Core.Path.{◌∙◌}
use Rattle.closure.proofs.Holding.{out-holds}
use Rattle.closure.proofs.outing.Goals as goal

pub returns : goal.returns
returns c =
    let P = c.requires in
    out-holds _ _ P.0.within _ (c.product.auto.dst ∙ c.store.ensures.sized) (c.join_parts.auto.m ∙ c.product.auto.dst ∙ c.store.ensures.sized) c.meets.ensures P.3 c.store.ensures c.product.ensures
    (c.join_parts.ensures _ P.0 P.2)
