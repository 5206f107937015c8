-- `text::lines::read_numbers` meets its contract. Assumes nothing.
use mathlib.Core.Path.{◌∙◌}
use Rattle.std.proofs.lemmas.Result.{err_from_is_err_and}
use Rattle.text.proofs.Said.{number-no, number-yes, kinded-is}
use Rattle.text.proofs.lines.read_numbers.Goals as goal

pub returns-in_err-a : goal.returns-in_err-a
returns-in_err-a c = let p = err_from_is_err_and c.from_residual.result c.from_residual.ensures.1 in rw (p.1, p.2) (number-no _ c.in_err-a.ensures.missing ∙ kinded-is _ _ _)

pub returns : goal.returns
returns c = c.read_second.ensures ∙ number-yes _ c.in_ok-a.ensures.found ∙ kinded-is _ _ _
