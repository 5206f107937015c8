use borrow.Author.Tests.{ne_eqb}
use mathlib.Core.Path.{ap}
use mathlib.Core.Bool.{not}
use mathlib.Core.Logic.{inl, inr}
-- `chain_steps::step_ok` meets its contract. Assumes nothing.
use mathlib.Core.Path.{◌∙◌}
use Rattle.chain_format.proofs.Citings.{marks-read}
use Rattle.chain_format.proofs.Stepping.{outside-a, outside_b, stored-second, stored-cites, free-c, free-f, marked-e', free-e', void-d, void-e, first-late, second-late, two-premises}
use native.Mathlib.Omega.{arith}
use Rattle.chain_format.proofs.chain_steps.step_ok.Goals as goal

pub returns-then-n-s : goal.returns-then-n-s
returns-then-n-s c =
    elim c.then-n-s.either [
      | inl l ↦ outside-a _ _ _ _ _ c.step_at-s.ensures l
      | inr r ↦ outside_b _ _ _ _ _ c.step_at-s.ensures r.0 r.1
    ]

pub returns-then-s-eq0 : goal.returns-then-s-eq0
returns-then-s-eq0 c =
    c.cites.ensures ∙ stored-cites _ _ _ _ _ c.step_at-s.ensures c.if-n-s.false c.if-n-s-2.false c.in-0.is c.if-s-eq0.true

pub returns-else-s-eq0 : goal.returns-else-s-eq0
returns-else-s-eq0 c = ne_eqb _ _ c.if-s-eq0.false ∙ stored-second _ _ _ _ _ c.step_at-s.ensures c.if-n-s.false c.if-n-s-2.false c.in-0.is c.if-s-eq0.false

pub returns-then-not-has : goal.returns-then-not-has
returns-then-not-has c =
    c.shows_freely-then-not-has.ensures ∙ free-e' _ _ _ _ _ c.step_at-s.ensures c.if-n-s.false c.if-n-s-2.false c.in-9.is (marks-read _ _ _ c.requires.1.1 _ _ c.has.ensures ∙ c.if-not-has.true)

pub returns-else-not-has : goal.returns-else-not-has
returns-else-not-has c =
    ap not c.if-not-has.false ∙ marked-e' _ _ _ _ _ c.step_at-s.ensures c.if-n-s.false c.if-n-s-2.false c.in-9.is (marks-read _ _ _ c.requires.1.1 _ _ c.has.ensures ∙ c.if-not-has.false)

pub returns-then-i-s : goal.returns-then-i-s
returns-then-i-s c =
    elim c.then-i-s.either [
      | inl l ↦ first-late _ _ _ _ _ c.step_at-s.ensures c.if-n-s.false c.if-n-s-2.false (omega arith) (omega arith) (omega arith) (omega arith) (omega arith) (omega arith) l
      | inr r ↦ second-late _ _ _ _ _ c.step_at-s.ensures c.if-n-s.false c.if-n-s-2.false (omega arith) (omega arith) (omega arith) (omega arith) (omega arith) (omega arith) r.0 r.1
    ]

pub returns-in-3 : goal.returns-in-3
returns-in-3 c = c.shows_freely.ensures ∙ free-c _ _ _ _ _ c.step_at-s.ensures c.if-n-s.false c.if-n-s-2.false c.in-3.is

pub returns-in-4 : goal.returns-in-4
returns-in-4 c = c.shows_freely-in-4.ensures ∙ free-f _ _ _ _ _ c.step_at-s.ensures c.if-n-s.false c.if-n-s-2.false c.in-4.is

pub returns-in-10 : goal.returns-in-10
returns-in-10 c = c.void_apart.ensures _ ∙ void-d _ _ _ _ _ c.step_at-s.ensures c.if-n-s.false c.if-n-s-2.false c.in-10.is

pub returns-in-11 : goal.returns-in-11
returns-in-11 c = c.void_part.ensures _ ∙ void-e _ _ _ _ _ c.step_at-s.ensures c.if-n-s.false c.if-n-s-2.false c.in-11.is

pub returns-else-i-s-2 : goal.returns-else-i-s-2
returns-else-i-s-2 c =
    c.by_premises.ensures ∙ two-premises _ _ _ _ _ c.step_at-s.ensures c.if-n-s.false c.if-n-s-2.false (omega arith) (omega arith) (omega arith) (omega arith) (omega arith) (omega arith) c.if-i-s.false c.if-i-s-2.false _ _ c.step_at-p.ensures c.step_at-q.ensures
