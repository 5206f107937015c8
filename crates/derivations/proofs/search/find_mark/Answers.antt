-- `derivations::search::find_mark` meets its contract. Assumes nothing.
use mathlib.Core.Path.{sym, ap, ◌∙◌}
use Rattle.lists.proofs.Bools.{not-true}
use Rattle.records.specs.Marked.{marks}
use Rattle.records.proofs.Marks.{marks-from, marks-here, marks-not}
use native.Mathlib.Omega.{arith}
use borrow.Author.Count.{below_more}
use mathlib.Core.Logic.{inl, inr}
use Rattle.derivations.proofs.search.find_mark.Goals as goal

pub returns-then-r-g : goal.returns-then-r-g
returns-then-r-g c = (omega arith, ap (marks _) (sym c.record_at-r.ensures) ∙ marks-here _ _ c.if-r-eq-VOID.true c.if-r-g.true)

pub loop-i-preserved : goal.loop-i-preserved
loop-i-preserved c =
    below_more _ _ c.loop-i.invariant
    (ap (marks _) (sym c.record_at-r.ensures)
    ∙ elim c.else-r-eq-VOID.either [
      | inl l ↦ not-true _ (λ q. l.1 (marks-from _ _ q).1)
      | inr r ↦ marks-not _ _ r
    ])
