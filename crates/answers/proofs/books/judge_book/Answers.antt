-- `books::judge_book` meets its contract. Assumes nothing.
use mathlib.Core.Path.{sym, ap, ◌∙◌}
use Rattle.outcomes.specs.Fresh.{uncounted}
use Rattle.answers.proofs.Fresh.{fresh-refused, fresh-runs}
use Rattle.answers.proofs.books.judge_book.Goals as goal

pub returns-in-Err : goal.returns-in-Err
unfolding uncounted
returns-in-Err c = ap uncounted (sym (fresh-refused _ (sym c.in-Err.ensures)))

pub returns-in-Ok : goal.returns-in-Ok
returns-in-Ok c = c.settle_in.ensures ∙ ap uncounted (sym (fresh-runs _ _ (sym c.in-Ok.ensures)))
