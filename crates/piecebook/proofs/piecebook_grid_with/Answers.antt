-- `piecebook::piecebook_grid_with` meets its contract: the numbers of the outcome, and the grids as they are. Assumes nothing.
use mathlib.Core.Path.{ap, ◌∙◌}
use Rattle.outcomes.specs.Outcome.{number, place}
use Rattle.piecebook.proofs.piecebook_grid_with.Goals as goal

pub returns : goal.returns
returns c =
    let G = c.grid-sheet.ensures in
    let R = c.result_of-result.ensures in
    record { number_is = R.number_is ∙ ap number G.outcome-is; place_is = R.place_is ∙ ap place G.outcome-is; bits = G.bits }
