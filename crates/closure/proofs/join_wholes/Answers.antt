-- `closure::join_wholes` meets its contract: steps between leaders make up containment, so rows pooled, joined and shared are a product. Assumes nothing.
use Rattle.closure.proofs.Spans.{steps-reach, joined}
use Rattle.closure.proofs.Leading.{wholes-spanned}
use Rattle.closure.proofs.join_wholes.Goals as goal

pub returns : goal.returns
returns c fs B S =
    let R = wholes-spanned _ fs B _ _ _ S in
    joined _ _ _ _ R _ _ _ _ B.fits c.pool_rows.ensures
    (c.join_against.ensures _ (steps-reach _ _ _ _ R)) c.share_rows.ensures
