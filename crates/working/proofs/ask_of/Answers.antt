-- `working::ask_of` meets its contract. Assumes nothing.
use mathlib.Core.Path.{sym, ap, ◌∙◌}
use Prim.Native.Nat.{◌*◌}
use native.Mathlib.Omega.{arith}
use lib.Seq.{length-take-le}
use Rattle.records.specs.Check.{book_check}
use Rattle.records.specs.declared.Refusal.TheVariants.{ShortBuffer, TooManyRecords}
use Rattle.outcomes.specs.Fresh.{fresh_call}
use Rattle.working.specs.Standing.{standing}
use Rattle.working.specs.Rows.{answer_of}
use Rattle.working.proofs.Settling.{ask-short, ask-many, ask-passes, no_answer, misfit-answer, one-fits}
use Rattle.working.proofs.ask_of.Goals as goal

-- src/lib.rt:237:9
pub returns-then-area-lt-BOOK_BYTES : goal.returns-then-area-lt-BOOK_BYTES
returns-then-area-lt-BOOK_BYTES c =
    let k = c.args.was.records in
    let s = c.args.area.now in
    let q = c.args.claim.now in
    rw c.at.ensures (sym (ask-short s q k (omega arith)), no_answer (standing s k) q ShortBuffer)

-- src/lib.rt:243:9
pub returns-then-records-gt-RECORDS : goal.returns-then-records-gt-RECORDS
returns-then-records-gt-RECORDS c =
    let k = c.args.was.records in
    let s = c.args.area.now in
    let q = c.args.claim.now in
    rw c.at-then-records-gt-RECORDS.ensures (sym (ask-many s q k (omega arith) (omega arith)), no_answer (standing s k) q TooManyRecords)

-- src/lib.rt:250:30
pub slice_bounds-misfit-end : goal.slice_bounds-misfit-end
slice_bounds-misfit-end c = sym (length-take-le (6 * c.args.was.records) c.args.area.now (omega arith))

-- src/lib.rt:251:9
pub returns-then-claim-ne-RECORD_BYTES : goal.returns-then-claim-ne-RECORD_BYTES
unfolding standing
returns-then-claim-ne-RECORD_BYTES c =
    let k = c.args.was.records in
    let s = c.args.area.now in
    let q = c.args.claim.now in (
      c.misfit-outcome.ensures ∙ sym (ask-passes s q k (omega arith) (omega arith)),
      misfit-answer (standing s k) q (book_check (standing s k)) (omega arith) ∙ ap (answer_of (standing s k) q) (sym c.misfit-outcome.ensures),
    )

-- src/lib.rt:253:16
pub slice_bounds-answer_run-end : goal.slice_bounds-answer_run-end
slice_bounds-answer_run-end c = sym (length-take-le (6 * c.args.was.records) c.args.area.now (omega arith))

-- src/lib.rt:232:1
pub returns : goal.returns
unfolding standing fresh_call
returns c =
    let k = c.args.was.records in
    let s = c.args.area.now in
    let q = c.args.claim.now in
    (c.answer_run.ensures.0 ∙ (one-fits (standing s k) q (book_check (standing s k)) (omega arith) ∙ sym (ask-passes s q k (omega arith) (omega arith))), c.answer_run.ensures.1)
