-- `clash::write_clash` meets its contract. Assumes nothing.
use mathlib.Core.Path.{sym, ◌∙◌}
use native.Mathlib.Omega.{arith}
use Rattle.clash.proofs.Replies.{call-short, call-book}
use Rattle.clash.proofs.write_clash.Goals as goal

pub returns-then-steps-lt-CHAIN_BYTES : goal.returns-then-steps-lt-CHAIN_BYTES
returns-then-steps-lt-CHAIN_BYTES c = call-short _ _ _ (rw c.at.ensures at c.refuse.ensures) (omega arith)

pub judge-requires : goal.judge-requires
judge-requires c = (sym c.in-Ok.ensures, omega arith)

pub returns-in-Err : goal.returns-in-Err
returns-in-Err c =
    call-book _ _ (omega arith) _ _ _ c.refuse-in-Err.ensures (sym c.in-Err.ensures)
