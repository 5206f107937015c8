use mathlib.Core.Path.{sym, ◌∙◌}
use native.Mathlib.Omega.{arith}
use Rattle.grids.proofs.Loads.{none_in, one_in, one_out, fit}
use Rattle.grids.proofs.load.Goals as goal
use Rattle.grids.proofs.load.Goals.{then-states_fact, else-states_fact}

pub loop-i-init : goal.loop-i-init
loop-i-init c = none_in c.args.book.now c.start-g.ensures

pub put-g-requires : goal.put-g-requires
put-g-requires c =
    let t = sym c.states_fact.ensures ∙ c.if-states_fact.true in
    fit c.requires c.loop-i.i _ (omega arith) c.record_at-r.ensures t

pub loop-i-preserved : goal.loop-i-preserved
loop-i-preserved c =
    let e = c.record_at-r.ensures in
    elim c.if-states_fact.branch [
      | then-states_fact w ↦
          let t = sym c.states_fact.ensures ∙ w.if-states_fact.true in
          rw w.g-is (one_in c.requires _ c.loop-i.i _ _ (omega arith) (rw e at t) c.loop-i.invariant (rw e at w.put-g.ensures))
      | else-states_fact w ↦
          let t = sym c.states_fact.ensures ∙ w.if-states_fact.false in
          rw w.g-is (one_out c.requires _ c.loop-i.i _ (omega arith) (rw e at t) c.loop-i.invariant)
    ]
