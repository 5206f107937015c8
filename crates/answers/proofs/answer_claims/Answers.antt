-- `answers::answer_claims` meets its contract. Assumes nothing.
use mathlib.Core.Path.{sym, ◌∙◌}
use lib.Seq.{length-take-le}
use Rattle.outcomes.specs.Lent.{lent}
use Rattle.answers.proofs.Calls.{tested, long, short-refused, rows-accepted, rows-refused, exact, judged}
use Rattle.answers.proofs.answer_claims.Goals as goal

pub returns-then-short : goal.returns-then-short
returns-then-short c =
    let P = short-refused _ _ _ (tested _ _ _ _ _ _ (sym c.short.ensures ∙ c.if-short.true)) in
    rw c.at.ensures (record { determined = P.0; demand2 = P.1.0; demand3 = P.1.1.0; contradicted = P.1.1.1.0; fitting = P.1.1.1.1 })

pub returns-in-Err : goal.returns-in-Err
returns-in-Err c =
    let P = rows-refused _ _ _ (tested _ _ _ _ _ _ (sym c.short.ensures ∙ c.if-short.false)) (sym c.in-Err.ensures) in
    record { determined = P.0; demand2 = P.1.0; demand3 = P.1.1.0; contradicted = P.1.1.1.0; fitting = P.1.1.1.1 }

pub slice_bounds-judge_in-end-2 : goal.slice_bounds-judge_in-end-2
slice_bounds-judge_in-end-2 c =
    let ok = tested c.args.claims.now c.args.parens.now c.args.marks.now c.args.shadows.now c.args.places.now c.args.answers.now (sym c.short.ensures ∙ c.if-short.false) in
    sym (length-take-le 2560 c.args.parens.now (long _ _ ok).parens)

pub slice_bounds-judge_in-end-4 : goal.slice_bounds-judge_in-end-4
slice_bounds-judge_in-end-4 c =
    let ok = tested c.args.claims.now c.args.parens.now c.args.marks.now c.args.shadows.now c.args.places.now c.args.answers.now (sym c.short.ensures ∙ c.if-short.false) in
    sym (length-take-le 1280 c.args.marks.now (long _ _ ok).marks)

pub slice_bounds-judge_in-end-6 : goal.slice_bounds-judge_in-end-6
slice_bounds-judge_in-end-6 c =
    let ok = tested c.args.claims.now c.args.parens.now c.args.marks.now c.args.shadows.now c.args.places.now c.args.answers.now (sym c.short.ensures ∙ c.if-short.false) in
    sym (length-take-le 8192 c.args.shadows.now (long _ _ ok).shadows)

pub slice_bounds-judge_in-end-8 : goal.slice_bounds-judge_in-end-8
slice_bounds-judge_in-end-8 c =
    let ok = tested c.args.claims.now c.args.parens.now c.args.marks.now c.args.shadows.now c.args.places.now c.args.answers.now (sym c.short.ensures ∙ c.if-short.false) in
    sym (length-take-le 2048 c.args.places.now (long _ _ ok).places)

pub judge_in-requires : goal.judge_in-requires
judge_in-requires c =
    let R = rows-accepted _ _ (sym c.in-Ok.ensures) in
    exact _ _ _ (tested _ _ _ _ _ _ (sym c.short.ensures ∙ c.if-short.false)) R.0 R.1

pub returns : goal.returns
returns c =
    let R = rows-accepted _ _ (sym c.in-Ok.ensures) in
    let J = c.judge_in in
    let P = judged _ _ _ (tested _ _ _ _ _ _ (sym c.short.ensures ∙ c.if-short.false)) R.0 R.1 J.result (lent J.new.parens J.new.marks J.new.shadows J.new.places J.new.answers) J.ensures in
    record { determined = P.0; demand2 = P.1.0; demand3 = P.1.1.0; contradicted = P.1.1.1.0; fitting = P.1.1.1.1 }
