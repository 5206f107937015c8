-- `text::reading::take_line` meets its contract. Assumes nothing.
use mathlib.Core.Path.{sym, ap, ◌∙◌}
use Rattle.std.specs.Prelude.{Ok}
use Rattle.std.proofs.lemmas.Result.{err_from_is_err_and}
use Rattle.text.proofs.Steps.{step-none, step-bad}
use Rattle.text.proofs.reading.take_line.Goals as goal

pub returns-in_err-entry : goal.returns-in_err-entry
returns-in_err-entry c =
    let p = err_from_is_err_and c.from_residual.result c.from_residual.ensures.1 in
    rw (p.1, p.2) (step-bad _ _ _ _ _ c.in_err-entry.ensures)

pub returns-in_default : goal.returns-in_default
returns-in_default c = step-none _ _ _ _ (sym (ap Ok c.in_default.is) ∙ c.in_ok-entry.ensures)
