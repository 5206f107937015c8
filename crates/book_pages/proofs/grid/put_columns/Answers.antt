-- `grid::put_columns` meets its contract: the loop keeps that the first b digits are put. Assumes nothing.
use native.Mathlib.Omega.{arith}
use mathlib.Core.Path.{ap}
use mathlib.Core.List.{[], ◌∷◌}
use Rattle.pages.proofs.Puts.{put_as}
use Rattle.pages.proofs.Lined.{no_line, next-line}
use Rattle.book_pages.specs.GridText.{columns}
use Rattle.book_pages.proofs.grid.put_columns.Goals as goal

pub loop-b-init : goal.loop-b-init
unfolding columns
loop-b-init c = no_line _

pub loop-b-preserved : goal.loop-b-preserved
unfolding columns
loop-b-preserved c =
    next-line _ c.loop-b.b c.loop-b.invariant (put_as (ap (λ x. x ∷ []) c.digit-x.ensures) c.put_byte-end.ensures)

pub returns : goal.returns
returns c = put_as (ap (columns _) (omega arith)) c.loop-b.invariant
