-- `storing::diagonal_where` meets its contract: the invariant is the part of the diagonal passed. Assumes nothing.
use mathlib.Core.Path.{ap, ◌∙◌}
use mathlib.Core.Bool.{Bool, ◌&&◌}
use lib.Dec.{eqb}
use Rattle.closure.proofs.Grows.{grown-same, grown-two, diagonal-more}
use Rattle.closure.proofs.storing.diagonal_where.Goals as goal

pub loop-i-preserved : goal.loop-i-preserved
loop-i-preserved g c =
    let L = c.loop-i in (
      c.insert_where.auto.m ∙ L.invariant.0,
      λ test T. grown-same (diagonal-more test L.i)
          (grown-two (L.invariant.1 test T) (grown-same (λ x y. ap (λ (v : Bool). v && (eqb L.i x && eqb L.i y)) (T.at L.i c.on.result c.loop-i-test.true c.on.ensures)) c.insert_where.ensures)),
    )
