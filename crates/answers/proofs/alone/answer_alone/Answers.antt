-- `alone::answer_alone` meets its contract. Assumes nothing.
use Prim.Native.Nat.{◌/◌}
use mathlib.Core.Path.{sym}
use lib.ListN.{length}
use lib.Seq.{length-take-le}
use Rattle.claims.proofs.Counts.{own-count}
use Rattle.answers.proofs.Calls.{rows-accepted}
use Rattle.answers.proofs.Unasked.{alone-short, alone-refused, alone-judged}
use Rattle.answers.proofs.alone.answer_alone.Goals as goal

pub returns-then-answers-asked : goal.returns-then-answers-asked
returns-then-answers-asked c = rw c.at.ensures (alone-short _ _ _ c.if-answers-asked.true)

pub returns-in-Err : goal.returns-in-Err
returns-in-Err c = alone-refused _ _ _ c.if-answers-asked.false (sym c.in-Err.ensures)

pub judge_alone-requires : goal.judge_alone-requires
judge_alone-requires c =
    let R = rows-accepted _ _ (sym c.in-Ok.ensures) in
    record { counted = own-count R.0; fit = R.1; rooms = length-take-le (length c.args.claims.now / 6) c.args.answers.now c.if-answers-asked.false }

pub returns-in-Ok : goal.returns-in-Ok
returns-in-Ok c =
    alone-judged _ _ _ c.if-answers-asked.false (sym c.in-Ok.ensures) _ _ c.judge_alone.ensures.0 c.judge_alone.ensures.1
