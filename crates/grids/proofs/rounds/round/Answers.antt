use Rattle.grids.proofs.RoundsLaws.{rounded}
use Rattle.grids.proofs.rounds.round.Goals as goal

pub returns : goal.returns
returns c =
    rounded _ _
    (record {
      t = c.turned-t.result;
      a₀ = c.product.result;
      m₀ = c.product-2.result;
      n₀ = c.product-parted.result;
      n₁ = c.product-shrunk.result;
      part_step = c.swept-p.ensures;
      turned-step = c.turned-t.ensures;
      apart-step = c.product.ensures;
      apart-mirrored = c.mirrored-a.ensures;
      meets-step = c.product-2.ensures;
      meets-mirrored = c.mirrored-m.ensures;
      parted-step = c.product-parted.ensures;
      shrunk-step = c.product-shrunk.ensures;
      notpart-step = c.product-n.ensures;
    })
