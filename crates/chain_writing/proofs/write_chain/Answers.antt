-- `chain_writing::write_chain` meets its contract. Assumes nothing.
use mathlib.Core.Path.{sym, ◌∙◌}
use Rattle.chain_writing.proofs.Replies.{claim-ok, call-short, call-book, call-misfit, call-claim, call-judged}
use native.Mathlib.Omega.{arith}
use Rattle.chain_writing.proofs.write_chain.Goals as goal

pub returns-then-steps-lt-CHAIN_BYTES : goal.returns-then-steps-lt-CHAIN_BYTES
returns-then-steps-lt-CHAIN_BYTES c = call-short _ _ _ _ (rw c.at.ensures at c.refuse.ensures) c.if-steps-lt-CHAIN_BYTES.true

pub returns-then-claim-ne-RECORD_BYTES : goal.returns-then-claim-ne-RECORD_BYTES
returns-then-claim-ne-RECORD_BYTES c =
    call-misfit _ _ _ (omega arith) _ (sym c.in-Ok.ensures) _ (rw c.at-then-claim-ne-RECORD_BYTES.ensures at c.refuse-then-claim-ne-RECORD_BYTES.ensures) c.if-claim-ne-RECORD_BYTES.true

pub judge-requires : goal.judge-requires
judge-requires c =
    let k = claim-ok _ _ (sym c.in_default.ensures) c.if-claim-ne-RECORD_BYTES.false _ c.record_at.ensures in (sym c.in-Ok.ensures, k.0, k.1, omega arith)

pub returns-in-Err : goal.returns-in-Err
returns-in-Err c =
    call-book _ _ _ (omega arith) _ _ _ c.refuse-in-Err.ensures (sym c.in-Err.ensures)

pub returns-in-Err-check_claims : goal.returns-in-Err-check_claims
returns-in-Err-check_claims c =
    call-claim _ _ _ (omega arith) _ (sym c.in-Ok.ensures) c.if-claim-ne-RECORD_BYTES.false _ _ _ c.refuse-in-Err-check_claims.ensures (sym c.in-Err-check_claims.ensures)

pub returns : goal.returns
returns c =
    call-judged _ _ _ (omega arith) _ (sym c.in-Ok.ensures) c.if-claim-ne-RECORD_BYTES.false (sym c.in_default.ensures) _ (rw c.record_at.ensures at c.judge.ensures)
