-- `text::lines::read_second` meets its contract. Assumes nothing.
use mathlib.Core.Path.{◌∙◌}
use Rattle.std.proofs.lemmas.Result.{err_from_is_err_and}
use Rattle.text.proofs.Said.{number-no, number-yes, second-void, second-else}
use Rattle.text.proofs.lines.read_second.Goals as goal

pub returns-then-kind-eq-VOID : goal.returns-then-kind-eq-VOID
returns-then-kind-eq-VOID c = c.read_last.ensures ∙ second-void _ _ _ _ c.if-kind-eq-VOID.true

pub returns-in_err-b : goal.returns-in_err-b
returns-in_err-b c = let p = err_from_is_err_and c.from_residual.result c.from_residual.ensures.1 in rw (p.1, p.2) (number-no _ c.in_err-b.ensures.missing ∙ second-else _ _ _ _ c.if-kind-eq-VOID.false)

pub returns : goal.returns
returns c = c.read_last-2.ensures ∙ number-yes _ c.in_ok-b.ensures.found ∙ second-else _ _ _ _ c.if-kind-eq-VOID.false
