-- `row_14::settle` meets its contract: one field for each call. Assumes nothing.
use borrow.Author.Rules.{rules}
use mathlib.Core.Path.{sym, ◌∙◌}
use Rattle.contradiction.specs.Settled.{row}
use Rattle.contradiction.proofs.Parts.{few-nodes, index-stored, parts-hold, led, steps-hold}
use Rattle.contradiction.proofs.Halving.{facts-roomy, roomy-same}
use Rattle.contradiction.proofs.SettlingLaws.{settles-free, settles-clash, steps-free, steps-clash, indexes-free, indexes-clash}
use Rattle.contradiction.proofs.row_14.settle.Goals as goal

pub contents-requires : goal.contents-requires
contents-requires c =
    let S = c.requires.0 in
    let R = roomy-same c.index_of-counts.auto.parens c.index_of-counts.auto.marks c.index_of-counts.auto.shadows c.index_of-counts.auto.places (facts-roomy _ _ _ _ _ _ S.roomy) in
    let I = c.index_of-counts.ensures in
    let G = c.grouped-count.ensures in
    (S.bounded.fits, few-nodes _ _ S.bounded _ _ _ _ G (search rules) _ _ _ _ _ _ R I, (search rules), index-stored _ _ S.bounded _ _ _ _ G (search rules) _ _ _ _ _ _ R I)

pub steps-requires : goal.steps-requires
steps-requires c =
    (c.requires.0.bounded, led _ _ c.requires.0.bounded _ _ _ _ c.grouped-count.ensures (search rules), (search rules))

pub meeting-requires : goal.meeting-requires
meeting-requires c =
    (c.requires.0.bounded, c.mark_voids.ensures.0, steps-hold _ _ c.requires.0.bounded _ _ _ _ c.grouped-count.ensures (search rules) _ c.steps.ensures, (search rules))

pub contradiction-requires : goal.contradiction-requires
contradiction-requires c =
    let S = c.requires.0 in
    let R = roomy-same c.index_of-counts.auto.parens c.index_of-counts.auto.marks c.index_of-counts.auto.shadows c.index_of-counts.auto.places (facts-roomy _ _ _ _ _ _ S.roomy) in
    let I = c.index_of-counts.ensures in
    let G = c.grouped-count.ensures in
    let D = parts-hold _ _ S.bounded _ _ _ _ G (search rules) _ _ _ _ _ _ R I _ (search rules) c.contents.ensures in
    let T = c.meeting.ensures in
    let W = c.mark_voids.ensures in
    let is = c.clashes.ensures.is _ S.bounded W.0.whole D T in
    (S.bounded, W.0, sym is ∙ c.if-clashes.true)

pub returns-then-clashes : goal.returns-then-clashes
unfolding row
returns-then-clashes c =
    let S = c.requires.0 in
    let R = roomy-same c.index_of-counts.auto.parens c.index_of-counts.auto.marks c.index_of-counts.auto.shadows c.index_of-counts.auto.places (facts-roomy _ _ _ _ _ _ S.roomy) in
    let I = c.index_of-counts.ensures in
    let G = c.grouped-count.ensures in
    let D = parts-hold _ _ S.bounded _ _ _ _ G (search rules) _ _ _ _ _ _ R I _ (search rules) c.contents.ensures in
    let T = c.meeting.ensures in
    let W = c.mark_voids.ensures in
    let is = c.clashes.ensures.is _ S.bounded W.0.whole D T in
    (W, settles-clash (record { is = sym c.if-clashes.true ∙ is; last = c.contradiction.ensures }), steps-clash, indexes-clash)

pub returns : goal.returns
unfolding row
returns c =
    let S = c.requires.0 in
    let R = roomy-same c.index_of-counts.auto.parens c.index_of-counts.auto.marks c.index_of-counts.auto.shadows c.index_of-counts.auto.places (facts-roomy _ _ _ _ _ _ S.roomy) in
    let I = c.index_of-counts.ensures in
    let G = c.grouped-count.ensures in
    let D = parts-hold _ _ S.bounded _ _ _ _ G (search rules) _ _ _ _ _ _ R I _ (search rules) c.contents.ensures in
    let T = c.meeting.ensures in
    let W = c.mark_voids.ensures in
    let is = c.clashes.ensures.is _ S.bounded W.0.whole D T in
    (W, settles-free (record { parts = D; toward = T; is = sym c.if-clashes.false ∙ is }), steps-free _ (steps-hold _ _ S.bounded _ _ _ _ G (search rules) _ c.steps.ensures), indexes-free I)
