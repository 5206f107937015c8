-- `answers::alone::judge_alone` meets its contract. Assumes nothing.
use Prim.Native.Nat.{ℕ}
use mathlib.Core.Path.{sym, ap}
use lib.ListN.{length-replicate}
use Rattle.outcomes.specs.Lent.{Lent}
use Rattle.answers.proofs.alone.judge_alone.Goals as goal

pub slice_bounds-judge_in-end : goal.slice_bounds-judge_in-end
slice_bounds-judge_in-end c = sym (length-replicate {A = ℕ} 2560 0)

pub slice_bounds-judge_in-end-2 : goal.slice_bounds-judge_in-end-2
slice_bounds-judge_in-end-2 c = sym (length-replicate {A = ℕ} 1280 0)

pub slice_bounds-judge_in-end-3 : goal.slice_bounds-judge_in-end-3
slice_bounds-judge_in-end-3 c = sym (length-replicate {A = ℕ} 8192 0)

pub slice_bounds-judge_in-end-4 : goal.slice_bounds-judge_in-end-4
slice_bounds-judge_in-end-4 c = sym (length-replicate {A = ℕ} 2048 0)

pub judge_in-requires : goal.judge_in-requires
judge_in-requires c =
    let P = c.requires in
    record { sound = P.counted; fit = P.fit; parens-long = length-replicate {A = ℕ} 2560 0; marks-long = length-replicate {A = ℕ} 1280 0; shadows-long = length-replicate {A = ℕ} 8192 0; places-long = length-replicate {A = ℕ} 2048 0; answers-long = P.rooms }

pub shape_of-answers : goal.shape_of-answers
shape_of-answers c = c.judge_in.auto.answers

pub returns : goal.returns
returns c = (c.judge_in.ensures.outcome-is, ap (λ (x : Lent). x.answers) c.judge_in.ensures.left_is)
