-- `grids::grid` meets its contract. Assumes nothing.
use mathlib.Core.Path.{sym, ◌∙◌}
use native.Mathlib.Omega.{arith}
use Rattle.answers.proofs.Fresh.{fresh-sound}
use Rattle.grids.proofs.Griddings.{refused-grid, large-grid, small-grid}
use Rattle.grids.proofs.grid.Goals as goal

pub returns-then-counts-gt-SIDE : goal.returns-then-counts-gt-SIDE
returns-then-counts-gt-SIDE c =
    let e = sym c.judge_run-outcome.ensures ∙ c.in-Ok.is in
    rw (c.refuse-then-counts-gt-SIDE.ensures.0, c.at.ensures) (large-grid _ _ e (omega arith) c.refuse-then-counts-gt-SIDE.ensures.1)

pub grids_of-requires : goal.grids_of-requires
grids_of-requires c = (fresh-sound _ (sym c.judge_run-outcome.ensures ∙ c.in-Ok.is), omega arith)

pub returns-in-Err : goal.returns-in-Err
returns-in-Err c =
    let e = sym c.judge_run-outcome.ensures ∙ c.in-Err.is in
    rw c.refuse.ensures.0 (refused-grid _ _ e c.refuse.ensures.1)

pub returns-else-counts-gt-SIDE : goal.returns-else-counts-gt-SIDE
returns-else-counts-gt-SIDE c =
    let e = sym c.judge_run-outcome.ensures ∙ c.in-Ok.is in
    small-grid _ _ e (omega arith) c.grids_of.ensures
