-- `sentences::line_of` meets its contract. Assumes nothing.
use native.Mathlib.Omega.{arith}
use Rattle.sentences.proofs.Refusals.{of-book, of_other, of_none, beyond}
use mathlib.Core.Path.{◌∙◌}
use Rattle.sentences.proofs.line_of.Goals as goal

pub returns-then-number-ge22 : goal.returns-then-number-ge22
returns-then-number-ge22 c = beyond _ _ _ _ (omega arith)

pub returns-then-counted-eq114 : goal.returns-then-counted-eq114
returns-then-counted-eq114 c = c.line_in.ensures ∙ of-book _ _ _ _ c.if-counted-eq114.true

pub returns-then-counted-eq99 : goal.returns-then-counted-eq99
returns-then-counted-eq99 c = c.line_in-then-counted-eq99.ensures ∙ of_other _ _ _ _ c.if-counted-eq114.false c.if-counted-eq99.true

pub returns-else-counted-eq99 : goal.returns-else-counted-eq99
returns-else-counted-eq99 c = of_none _ _ _ _ c.if-counted-eq114.false c.if-counted-eq99.false
