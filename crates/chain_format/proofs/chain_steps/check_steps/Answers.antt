use mathlib.Core.Logic.{inl, inr}
-- `chain_steps::check_steps` meets its contract: the loop keeps that the steps passed are justified. Assumes nothing.
use mathlib.Core.Path.{sym, ◌∙◌}
use native.Mathlib.Omega.{arith}
use Rattle.chain_format.proofs.Passing.{ragged-steps, no_steps, many-steps, bad-step, all_none, all_more, all_done, kind-most, ends-claim, ends-opposite}
use Rattle.chain_format.proofs.chain_steps.check_steps.Goals as goal

pub returns-then-c-ne0 : goal.returns-then-c-ne0
returns-then-c-ne0 c = ragged-steps _ _ _ _ c.if-c-ne0.true

pub returns-then-m-lt1 : goal.returns-then-m-lt1
returns-then-m-lt1 c =
    elim c.then-m-lt1.either [
      | inl l ↦ no_steps _ _ _ _ (omega arith) l
      | inr r ↦ many-steps _ _ _ _ (omega arith) (omega arith) r.1
    ]

pub loop-i-init : goal.loop-i-init
loop-i-init c = all_none _ _ _

pub returns-then-not-step_ok : goal.returns-then-not-step_ok
returns-then-not-step_ok c =
    bad-step _ _ _ _ (omega arith) (omega arith) (omega arith) c.loop-i.i (omega arith) (sym c.step_ok.ensures ∙ c.if-not-step_ok.true)

pub loop-i-preserved : goal.loop-i-preserved
loop-i-preserved c = all_more _ _ _ _ c.loop-i.invariant (sym c.step_ok.ensures ∙ c.if-not-step_ok.false)

pub returns-then-shows : goal.returns-then-shows
returns-then-shows c =
    c.if-shows.true ∙ ends-claim _ _ _ _ c.requires.2 (omega arith) (omega arith) (omega arith) (all_done _ _ _ c.loop-i.i _ (omega arith) (omega arith) c.loop-i.invariant) _ c.step_at-last.ensures (sym c.shows.ensures ∙ c.if-shows.true)

pub overflow_sub-claim : goal.overflow_sub-claim
overflow_sub-claim c = omega (arith, kind-most _ c.requires.2)

pub returns-else-shows : goal.returns-else-shows
returns-else-shows c =
    c.shows-else-shows.ensures ∙ ends-opposite _ _ _ _ c.requires.2 (omega arith) (omega arith) (omega arith) (all_done _ _ _ c.loop-i.i _ (omega arith) (omega arith) c.loop-i.invariant) _ c.step_at-last.ensures (sym c.shows.ensures ∙ c.if-shows.false)
