use native.Mathlib.Omega.{arith}
use mathlib.Core.Path.{refl, sym, ◌∙◌}
use Rattle.containment.proofs.Pieces.{shadows-none, shadows-node, shadows-more}
use Rattle.containment.proofs.number_shadows.Goals as goal
use Rattle.containment.proofs.number_shadows.Goals.{then-get, else-get}

pub loop-q-init : goal.loop-q-init
loop-q-init c = (omega arith, omega arith, refl, shadows-none 0 _ _ _)

pub loop-q-preserved : goal.loop-q-preserved
loop-q-preserved c =
    let L = c.loop-q in
    let J = c.if-get in (
      omega arith,
      elim J.branch [ then-get w ↦ omega arith | else-get w ↦ omega arith ],
      J.auto.turned ∙ L.invariant.2,
      elim J.branch [
        | then-get w ↦ rw (w.turned-is, w.j-is) (shadows-more c.args.nodes _ _ _ L.invariant.3 w.from-t.result c.requires.2 c.loop-q-test.true (omega (arith, L.auto.turned, c.requires.0, c.loop-q-test.true)) (sym c.get.ensures ∙ w.if-get.true) w.from-t.ensures)
        | else-get w ↦ rw (w.turned-is, w.j-is) (shadows-node 0 _ _ _ L.invariant.3 (sym c.get.ensures ∙ w.if-get.false))
      ],
    )
