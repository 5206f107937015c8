-- `books::judge_run` meets its contract. Assumes nothing.
use mathlib.Core.Path.{sym, ◌∙◌}
use Rattle.answers.proofs.Fresh.{fresh-refused, fresh-runs}
use Rattle.answers.proofs.books.judge_run.Goals as goal

pub returns-in-Err : goal.returns-in-Err
returns-in-Err c = sym (fresh-refused _ (sym c.in-Err.ensures))

pub returns-in-Ok : goal.returns-in-Ok
returns-in-Ok c = c.count_in.ensures ∙ sym (fresh-runs _ _ (sym c.in-Ok.ensures))
