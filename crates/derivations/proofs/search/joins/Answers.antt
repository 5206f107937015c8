-- `derivations::search::joins` meets its contract. Assumes nothing.
use mathlib.Core.Path.{sym, ◌∙◌}
use Rattle.derivations.proofs.Serving.{joins-apart, joins-meets, joins-notpart, joins-outside}
use Rattle.derivations.proofs.search.joins.Goals as goal

pub returns-in-Apart : goal.returns-in-Apart
returns-in-Apart c = joins-apart _ _ _ _ _ _ _ _ c.in-Apart.is c.both.ensures

pub returns-in-Meets : goal.returns-in-Meets
returns-in-Meets c = joins-meets _ _ _ _ _ _ _ _ c.in-Meets.is c.both-in-Meets.ensures

pub returns-in-NotPart : goal.returns-in-NotPart
returns-in-NotPart c = joins-notpart _ _ _ _ _ _ _ _ c.in-NotPart.is c.both-in-NotPart.ensures

pub returns-then-test : goal.returns-then-test
returns-then-test c = joins-outside _ _ _ _ _ _ _ _ c.in-Outside.is (c.meet.ensures ∙ simp (sym c.test.ensures ∙ c.if-test.true))

pub returns-else-test : goal.returns-else-test
returns-else-test c = joins-outside _ _ _ _ _ _ _ _ c.in-Outside.is (c.if-test.false ∙ simp (sym c.test.ensures ∙ c.if-test.false))
