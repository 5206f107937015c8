-- `closure::apart::apart_rows` meets its contract: rows joined against the steps are a product with U. Assumes nothing.
use Rattle.closure.proofs.Aparts.{apart-holds}
use mathlib.Core.Path.{◌∙◌}
use Rattle.closure.proofs.apart.apart_rows.Goals as goal

pub returns : goal.returns
returns c =
    let P = c.requires in
    apart-holds _ _ _ P.0 P.1.whole P.6 c.apart_told.ensures P.3 c.clear_rows.ensures c.product.ensures
    (c.join_wholes.ensures _ P.0 P.2) (c.join_wholes.auto.m ∙ c.product.auto.dst ∙ c.clear_rows.auto.m ∙ c.requires.5)
