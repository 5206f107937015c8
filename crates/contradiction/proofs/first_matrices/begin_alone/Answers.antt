-- `first_matrices::begin_alone` meets its contract: one field for each call. Assumes nothing.
use borrow.Author.Rules.{rules}
use Rattle.contradiction.proofs.Parts.{led, steps-hold}
use Rattle.contradiction.proofs.first_matrices.begin_alone.Goals as goal

pub steps-requires : goal.steps-requires
steps-requires c =
    let B = c.requires.0 in
    (B, led _ _ B _ _ _ _ c.grouped.ensures (search rules), (search rules))

pub part_rows-requires : goal.part_rows-requires
part_rows-requires c =
    let B = c.requires.0 in
    let W = steps-hold _ _ B _ _ _ _ c.grouped.ensures (search rules) _ c.steps.ensures in
    ((search rules), B.fits, record { matrix = W.sized; sorted = W.sorted; led = W.led })

pub meeting-requires : goal.meeting-requires
meeting-requires c =
    let B = c.requires.0 in
    (B, c.requires.1, steps-hold _ _ B _ _ _ _ c.grouped.ensures (search rules) _ c.steps.ensures, (search rules))

pub returns : goal.returns
returns c =
    let B = c.requires.0 in
    let W = steps-hold _ _ B _ _ _ _ c.grouped.ensures (search rules) _ c.steps.ensures in
    let D = c.part_rows.ensures _ B W in
    let T = c.meeting.ensures in
    (record { parts = D; toward = T; is = c.clashes.ensures.is _ B c.requires.1.whole D T }, W)
