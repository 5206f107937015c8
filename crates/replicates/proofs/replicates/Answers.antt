-- `replicates::replicates` meets its contract. Assumes nothing.
use native.Mathlib.Omega.{arith}
use mathlib.Core.Path.{sym, ◌∙◌}
use Rattle.replicates.proofs.Calls.{short-refused, book-refused, judged-all}
use Rattle.replicates.proofs.replicates.Goals as goal

pub returns-then-out-count : goal.returns-then-out-count
returns-then-out-count c = let A = c.args in short-refused A.book.now A.window A.log.now A.out.now _ (rw c.at.ensures at c.refuse.ensures) (omega arith)

pub judge-requires : goal.judge-requires
judge-requires c = (sym c.in-Ok.ensures, omega arith)

pub returns-in-Err : goal.returns-in-Err
returns-in-Err c =
    let A = c.args in book-refused A.book.now A.window A.log.now A.out.now _ _ _ c.refuse-in-Err.ensures (omega arith) (sym c.in-Err.ensures)

pub returns-in-Ok : goal.returns-in-Ok
returns-in-Ok c =
    let A = c.args in judged-all A.book.now A.window A.log.now A.out.now _ _ _ (omega arith) (sym c.in-Ok.ensures) c.judge.ensures
