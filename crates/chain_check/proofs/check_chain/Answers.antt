-- `chain_check::check_chain` meets its contract. Assumes nothing.
use mathlib.Core.Path.{sym, ◌∙◌}
use Rattle.answers.proofs.Fresh.{counts-refused, counts-accepted, fresh-runs, uncounted-sound}
use Rattle.chain_check.proofs.Asking.{passes-misfit, passes-refused}
use Rattle.chain_check.proofs.check_chain.Goals as goal

pub returns-then-claim-ne-RECORD_BYTES : goal.returns-then-claim-ne-RECORD_BYTES
returns-then-claim-ne-RECORD_BYTES c = passes-misfit _ _ _ c.if-claim-ne-RECORD_BYTES.true

pub check_accepted-requires : goal.check_accepted-requires
check_accepted-requires c = (uncounted-sound _ (sym c.in-Ok.ensures), c.if-claim-ne-RECORD_BYTES.false)

pub returns-in-Err : goal.returns-in-Err
returns-in-Err c = passes-refused _ _ _ _ _ (counts-refused _ (sym c.in-Err.ensures))

pub returns-in-Ok : goal.returns-in-Ok
returns-in-Ok c =
    let e = sym c.in-Ok.ensures in
    c.check_accepted.ensures _ _ (sym (fresh-runs _ _ (uncounted-sound _ e)) ∙ (counts-accepted _ e).2)
