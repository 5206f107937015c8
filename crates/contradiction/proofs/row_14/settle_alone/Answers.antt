-- `row_14::settle_alone` meets its contract. Assumes nothing.
use mathlib.Core.Path.{sym, ◌∙◌}
use Rattle.contradiction.proofs.SettlingLaws.{settles-free, settles-clash, steps-free, steps-clash}
use Rattle.contradiction.proofs.row_14.settle_alone.Goals as goal

pub contradiction-requires : goal.contradiction-requires
contradiction-requires c = (c.requires.0, c.requires.1, sym c.begin_alone.ensures.0.is ∙ c.if-begin_alone.true)

pub returns-then-begin_alone : goal.returns-then-begin_alone
returns-then-begin_alone c =
    (settles-clash (record { is = sym c.if-begin_alone.true ∙ c.begin_alone.ensures.0.is; last = c.contradiction.ensures }), steps-clash)

pub returns : goal.returns
returns c =
    let B = c.begin_alone.ensures in
    (settles-free (record { parts = B.0.parts; toward = B.0.toward; is = sym c.if-begin_alone.false ∙ B.0.is }), steps-free _ B.1)
