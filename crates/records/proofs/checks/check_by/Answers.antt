-- `checks::check_by` meets its contract: rows 3 and 4 in order, then the records. Assumes nothing.
use mathlib.Core.Path.{◌∙◌}
use native.Mathlib.Omega.{arith}
use Rattle.records.proofs.Books.{uneven, too_long, measured}
use Rattle.records.proofs.checks.check_by.Goals as goal

pub returns-then-book-ne0 : goal.returns-then-book-ne0
returns-then-book-ne0 c = rw c.at.ensures (uneven _ _ (λ e. omega arith))

pub returns-then-n-gt-RECORDS : goal.returns-then-n-gt-RECORDS
returns-then-n-gt-RECORDS c = rw c.at-then-n-gt-RECORDS.ensures (too_long _ _ (omega arith) (omega arith))

pub returns : goal.returns
returns c = c.check_records.ensures ∙ measured _ _ (omega arith) (omega arith)
