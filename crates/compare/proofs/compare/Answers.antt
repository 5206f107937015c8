-- `compare::compare` meets its contract. Assumes nothing.
use mathlib.Core.Path.{refl, sym, ◌∙◌}
use Rattle.compare.proofs.Rows.{short-refused, rest-refused, rows-determined}
use Rattle.compare.proofs.Demands.{demanded}
use Rattle.compare.proofs.compare.Goals as goal

pub returns-then-out-asked : goal.returns-then-out-asked
returns-then-out-asked c =
    let D = short-refused c.args.first.now c.args.second.now c.args.claims.now c.args.out.now c.if-out-asked.true in
    rw (c.refused_of.ensures, c.at.ensures) (record { determined = D; demanded = demanded _ _ _ _ _ _ D })

pub judge_both-requires : goal.judge_both-requires
judge_both-requires c = (c.in-Ok.ensures.accepted _ refl, c.if-out-asked.false)

pub returns-in-Err : goal.returns-in-Err
returns-in-Err c =
    let e = c.in-Err.ensures.refused _ _ refl in
    let f = rw c.refused_of-in-Err.ensures at c.after.ensures in
    let D = rows-determined _ _ _ _ _ _ c.if-out-asked.false (f ∙ sym e, rest-refused _ _ _ _ _ _ _ _ _ f) in
    record { determined = D; demanded = demanded _ _ _ _ _ _ D }

pub shape_of-out : goal.shape_of-out
shape_of-out c = c.judge_both.auto.out

pub returns-in-Ok : goal.returns-in-Ok
returns-in-Ok c =
    let D = rows-determined _ _ _ _ _ _ c.if-out-asked.false c.judge_both.ensures in
    record { determined = D; demanded = demanded _ _ _ _ _ _ D }
