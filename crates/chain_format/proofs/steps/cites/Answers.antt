-- `steps::cites` meets its contract. Assumes nothing.
use mathlib.Core.Path.{sym, ◌∙◌}
use Rattle.chain_format.proofs.Computed.{beyond-book, brings-none, brings-barred, brings-fact}
use native.Mathlib.Omega.{arith}
use Rattle.chain_format.proofs.steps.cites.Goals as goal
use Rattle.chain_format.proofs.steps.cites.Goals.{then-states_fact, else-states_fact}

pub returns-then-book-s : goal.returns-then-book-s
returns-then-book-s c = beyond-book _ _ _ c.if-book-s.true

pub returns-then-lets : goal.returns-then-lets
returns-then-lets c =
    elim c.if-states_fact.branch [
      | then-states_fact w ↦
          c.shows.ensures ∙ brings-fact _ _ _ (omega arith) _ c.record_at-r.ensures (sym c.states_fact.ensures ∙ w.if-states_fact.true) (sym w.lets.ensures ∙ sym w.value-is ∙ c.if-lets.true)
      | else-states_fact w ↦ (cc)
    ]

pub returns-else-lets : goal.returns-else-lets
returns-else-lets c =
    elim c.if-states_fact.branch [
      | then-states_fact w ↦
          c.if-lets.false
          ∙ brings-barred _ _ _ (omega arith) _ c.record_at-r.ensures (sym c.states_fact.ensures ∙ w.if-states_fact.true) (sym w.lets.ensures ∙ sym w.value-is ∙ c.if-lets.false)
      | else-states_fact w ↦ c.if-lets.false ∙ brings-none _ _ _ (omega arith) _ c.record_at-r.ensures (sym c.states_fact.ensures ∙ w.if-states_fact.false)
    ]
