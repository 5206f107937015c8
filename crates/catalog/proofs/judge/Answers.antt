-- `catalog::judge` meets its contract. Assumes nothing.
use mathlib.Core.Path.{refl, sym, ◌∙◌}
use Rattle.lists.specs.Tab.{tab}
use Rattle.records.specs.Claimed.{answers_to}
use Rattle.contradiction.proofs.SettlingLaws.{row-free, row-clash}
use Rattle.answers.proofs.Judges.{settleable-at, cleared_at}
use Rattle.answers.proofs.Judges as answers
use Rattle.catalog.proofs.Books.{places-are}
use Rattle.catalog.proofs.Calls.{judged-refused, judged-written}
use Rattle.catalog.proofs.judge.Goals as goal

pub settle-settled-requires : goal.settle-settled-requires
settle-settled-requires c = (settleable-at _ _ _ _ c.requires.1.exact, refl)

pub fill-written-requires : goal.fill-written-requires
fill-written-requires c =
    let P = c.requires in
    let X = P.1.exact in
    let S = c.settle-settled in
    let O = S.ensures.1.free (row-free c.in-Ok.is) in (
      P.0,
      record { sound = P.1.sound; void = S.ensures.0; free = O.is; parts = O.parts; toward = O.toward; placed = places-are _ _ P.1.sound (S.ensures.2.free _ _ c.in-Ok.is) (S.auto.places ∙ X.places-long) },
      P.1.roomy,
    )

pub returns-in-Err : goal.returns-in-Err
returns-in-Err c =
    let X = c.requires.1.exact in
    let S = c.settle-settled in
    rw c.at.ensures (judged-refused _ _ _ _ _
    (answers.judged-refused _ _ _ _ X _ _ _ _ _ (rw S.ensures.0.1 at (S.ensures.1.clash _ (row-clash c.in-Err.is)))
    (cleared_at (S.auto.parens ∙ X.parens-long) (S.auto.marks ∙ X.marks-long) (S.auto.shadows ∙ X.shadows-long) (S.auto.places ∙ X.places-long) c.clear_index.ensures)))

pub returns-in-Ok : goal.returns-in-Ok
unfolding answers_to tab
returns-in-Ok c =
    let X = c.requires.1.exact in
    let S = c.settle-settled in
    judged-written _ _ _ _ _
    (answers.judged-accepted _ _ _ _ X _ _ _ _ _ _ _ _ _ (S.auto.parens ∙ X.parens-long) (S.auto.marks ∙ X.marks-long) (S.auto.shadows ∙ X.shadows-long) (S.auto.places ∙ X.places-long)
    (rw S.ensures.0.1 at (S.ensures.1.free (row-free c.in-Ok.is))) (S.ensures.2.free _ _ c.in-Ok.is) refl)
    c.fill-written.ensures
