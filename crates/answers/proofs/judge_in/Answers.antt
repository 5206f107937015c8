-- `answers::judge_in` meets its contract. Assumes nothing.
use mathlib.Core.Path.{refl, ◌∙◌}
use Rattle.contradiction.proofs.SettlingLaws.{row-free, row-clash}
use Rattle.answers.proofs.Judges.{settleable-at, cleared_at, judged-refused, judged-accepted}
use Rattle.answers.proofs.judge_in.Goals as goal

pub settle-settled-requires : goal.settle-settled-requires
settle-settled-requires c = (settleable-at _ _ _ _ c.requires, refl)

pub answer_all-requires : goal.answer_all-requires
answer_all-requires c =
    let s = c.requires in
    let S = c.settle-settled.ensures in
    let q = row-free c.in-Ok.is in
    let O = S.1.free q in
    record { sound = s.sound; void = S.0; free = O.is; fit = s.fit; rooms = s.answers-long; stepped = S.2.free q; parts = O.parts; toward = O.toward }

pub returns-in-Err : goal.returns-in-Err
returns-in-Err c =
    let s = c.requires in
    let S = c.settle-settled in
    rw c.refuse_clash.ensures.0 (judged-refused _ _ _ _ s _ _ _ _ _ (rw S.ensures.0.1 at (S.ensures.1.clash _ (row-clash c.in-Err.is)))
    (cleared_at (S.auto.parens ∙ s.parens-long) (S.auto.marks ∙ s.marks-long) (S.auto.shadows ∙ s.shadows-long) (S.auto.places ∙ s.places-long) c.refuse_clash.ensures.1))

pub returns-in-Ok : goal.returns-in-Ok
returns-in-Ok c =
    let s = c.requires in
    let S = c.settle-settled in
    rw c.of.ensures (judged-accepted _ _ _ _ s _ _ _ _ _ _ _ _ _ (S.auto.parens ∙ s.parens-long) (S.auto.marks ∙ s.marks-long) (S.auto.shadows ∙ s.shadows-long) (S.auto.places ∙ s.places-long)
    (rw S.ensures.0.1 at (S.ensures.1.free (row-free c.in-Ok.is))) (S.ensures.3.free _ _ c.in-Ok.is) c.answer_all.ensures)
