-- `building::build` meets its contract.
-- Assumes nothing.
use mathlib.Core.Path.{◌∙◌}
use Rattle.index.proofs.Fits.{byte}
use Rattle.index.proofs.Walking.{resized}
use Rattle.index.proofs.Resolution.{resolvable, index_is}
use Rattle.index.proofs.Buildings.{walkable, indexed}
use Rattle.index.proofs.building.build.Goals as goal

pub resolve-requires : goal.resolve-requires
resolve-requires c =
    let d = c.complete-parent in
    let W = walkable c.requires d.ensures.0 d.auto.edges d.ensures.1 in
    let R = resized W (c.walk-counts.auto.parens ∙ c.fill.ensures.len) (c.walk-counts.auto.marks ∙ c.fill-2.ensures.len) (c.walk-counts.auto.shadows ∙ c.fill-3.ensures.len) (c.walk-counts.auto.places ∙ c.fill-4.ensures.len) in
    resolvable _ _ R.book _ _ _ _ _ _ c.walk-counts.ensures R.room.shadows R.room.places

pub returns : goal.returns
returns c =
    let d = c.complete-parent in
    let W = walkable c.requires d.ensures.0 d.auto.edges d.ensures.1 in
    let R = resized W (c.walk-counts.auto.parens ∙ c.fill.ensures.len) (c.walk-counts.auto.marks ∙ c.fill-2.ensures.len) (c.walk-counts.auto.shadows ∙ c.fill-3.ensures.len) (c.walk-counts.auto.places ∙ c.fill-4.ensures.len) in
    let I = index_is _ _ R.book _ _ _ _ _ _ c.walk-counts.ensures R.room _ c.resolve.ensures (λ i. byte _ (c.slice_known-11-1.given i)) (λ i. byte _ (c.slice_known-12-1.given i)) in
    record { index = indexed c.requires d.ensures.0 d.auto.edges I; joins = d.ensures.0 }
