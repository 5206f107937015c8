-- `compare::judge_both` meets its contract. Assumes nothing.
use mathlib.Core.Path.{sym}
use Rattle.compare.proofs.Rows.{answers-left}
use Rattle.compare.proofs.Judges.{front-fit, front_long, answers-fit, answers-long, answers-there, answers-room, first-answerable, second-answerable, both-judgeable, first-refuses, second-refuses, both-answer}
use Rattle.compare.proofs.judge_both.Goals as goal

pub slice_bounds-ours-end : goal.slice_bounds-ours-end
slice_bounds-ours-end c = front-fit c.requires.0

pub slice_bounds-judge_alone-end : goal.slice_bounds-judge_alone-end
slice_bounds-judge_alone-end c = sym (front_long c.requires.0)

pub judge_alone-one-requires : goal.judge_alone-one-requires
judge_alone-one-requires c = first-answerable c.requires.0 (front_long c.requires.0)

pub returns-in-Err : goal.returns-in-Err
returns-in-Err c =
    rw c.refused_of.ensures (first-refuses c.requires.0 (answers-left _ _ _ _ _ _ (front_long c.requires.0) c.judge_alone-one.ensures.0 c.judge_alone-one.ensures.1) c.in-Err.is)

pub slice_bounds-theirs-end : goal.slice_bounds-theirs-end
slice_bounds-theirs-end c = front-fit c.requires.0

pub slice_bounds-judge_alone-end-2 : goal.slice_bounds-judge_alone-end-2
slice_bounds-judge_alone-end-2 c = sym (front_long c.requires.0)

pub judge_alone-two-requires : goal.judge_alone-two-requires
judge_alone-two-requires c = second-answerable c.requires.0 (front_long c.requires.0)

pub returns-in-Err-two : goal.returns-in-Err-two
returns-in-Err-two c =
    rw c.refused_of-in-Err-two.ensures (second-refuses c.requires.0 (answers-left _ _ _ _ _ _ (front_long c.requires.0) c.judge_alone-one.ensures.0 c.judge_alone-one.ensures.1) c.in_default.is (answers-left _ _ _ _ _ _ (front_long c.requires.0) c.judge_alone-two.ensures.0 c.judge_alone-two.ensures.1) c.in-Err-two.is)

pub lay_together-consistent-requires : goal.lay_together-consistent-requires
lay_together-consistent-requires c = both-judgeable c.requires.0

pub slice_bounds-ours-end-2 : goal.slice_bounds-ours-end-2
slice_bounds-ours-end-2 c = answers-fit c.requires.0 c.judge_alone-one.new.answers c.judge_alone-one.auto.answers

pub slice_bounds-write_answers-end : goal.slice_bounds-write_answers-end
slice_bounds-write_answers-end c = sym (answers-long c.requires.0 c.judge_alone-one.new.answers c.judge_alone-one.auto.answers)

pub slice_bounds-theirs-end-2 : goal.slice_bounds-theirs-end-2
slice_bounds-theirs-end-2 c = answers-fit c.requires.0 c.judge_alone-two.new.answers c.judge_alone-two.auto.answers

pub slice_bounds-write_answers-end-2 : goal.slice_bounds-write_answers-end-2
slice_bounds-write_answers-end-2 c = sym (answers-long c.requires.0 c.judge_alone-two.new.answers c.judge_alone-two.auto.answers)

pub write_answers-requires : goal.write_answers-requires
write_answers-requires c =
    answers-room c.args.claims.now c.requires.1 (answers-long c.requires.0 c.judge_alone-one.new.answers c.judge_alone-one.auto.answers) (answers-long c.requires.0 c.judge_alone-two.new.answers c.judge_alone-two.auto.answers)

pub returns : goal.returns
returns c =
    both-answer c.requires.0 (answers-left _ _ _ _ _ _ (front_long c.requires.0) c.judge_alone-one.ensures.0 c.judge_alone-one.ensures.1) c.in_default.is (answers-left _ _ _ _ _ _ (front_long c.requires.0) c.judge_alone-two.ensures.0 c.judge_alone-two.ensures.1) _ c.in_default-two.is c.lay_together-consistent.ensures
    (answers-there c.requires.0 c.judge_alone-one.new.answers c.judge_alone-one.auto.answers) (answers-there c.requires.0 c.judge_alone-two.new.answers c.judge_alone-two.auto.answers) c.write_answers.ensures
