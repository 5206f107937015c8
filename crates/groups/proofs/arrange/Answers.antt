-- `groups::arrange` meets its contract. Assumes nothing.
use mathlib.Core.Path.{sym, ◌∙◌}
use native.Mathlib.Omega.{arith}
use Rattle.groups.proofs.Arranging.{arrange-none, arrange-leader, arrange-follower}
use Rattle.groups.proofs.arrange.Goals as goal
use Rattle.groups.proofs.arrange.Goals.{then-from-g, else-from-g}

pub loop-g-init : goal.loop-g-init
loop-g-init c =
    ((c.requires.few, omega arith, omega arith, c.requires.sized), arrange-none c.args.n c.args.m c.args.done.now c.args.lead.now c.args.order.now)

pub loop-g-preserved : goal.loop-g-preserved
loop-g-preserved c =
    let L = c.loop-g in
    let J = c.if-from-g in (
      (c.requires.few, omega arith, elim J.branch [ then-from-g w ↦ omega arith | else-from-g w ↦ omega arith ], J.auto.order ∙ L.invariant.0.3),
      elim J.branch [
        | then-from-g w ↦ rw (w.order-is, w.j-is, w.from-then-from-g.ensures)
            (arrange-leader c.args.n c.args.m c.args.done.now c.args.lead.now _ c.requires L.order L.j L.g L.invariant.1 c.loop-g-test.true (omega (arith, L.invariant.0)) (sym c.from.ensures ∙ w.if-from-g.true))
        | else-from-g w ↦ rw (w.order-is, w.j-is)
            (arrange-follower c.args.n c.args.m c.args.done.now c.args.lead.now _ c.requires L.order L.j L.g L.invariant.1 c.loop-g-test.true (omega (arith, L.invariant.0)) (λ e. w.if-from-g.false (c.from.ensures ∙ e)))
      ],
    )
