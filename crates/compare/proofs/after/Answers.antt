-- `compare::after` meets its contract. Assumes nothing.
use mathlib.Core.Path.{sym, ◌∙◌}
use Rattle.compare.proofs.Rows.{after-refused, after-accepted}
use Rattle.compare.proofs.after.Goals as goal

pub returns-in-Err : goal.returns-in-Err
returns-in-Err c = rw c.refused_of.ensures (after-refused 1 _ _ (sym c.in-Err.ensures))

pub returns-in-Err-judge_book : goal.returns-in-Err-judge_book
returns-in-Err-judge_book c =
    rw c.refused_of-in-Err-judge_book.ensures (after-refused 2 _ _ (sym c.in-Err-judge_book.ensures) ∙ after-accepted 1 _ _ (sym c.in_default.ensures))

pub returns : goal.returns
returns c =
    after-accepted 2 _ _ (sym c.in_default-judge_book.ensures) ∙ after-accepted 1 _ _ (sym c.in_default.ensures)
