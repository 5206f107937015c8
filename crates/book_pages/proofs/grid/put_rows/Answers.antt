-- `grid::put_rows` meets its contract: the loop keeps that the first a lines are put. Assumes nothing.
use native.Mathlib.Omega.{arith}
use mathlib.Core.Path.{ap}
use mathlib.Core.List.{[], ◌∷◌}
use Rattle.pages.proofs.Puts.{chain, put_as}
use Rattle.pages.proofs.Lined.{no_line, next-line}
use Rattle.book_pages.specs.GridText.{row, rows}
use Rattle.book_pages.proofs.grid.put_rows.Goals as goal

pub loop-a-init : goal.loop-a-init
unfolding rows
loop-a-init c = no_line _

pub loop-a-preserved : goal.loop-a-preserved
unfolding rows row
loop-a-preserved c =
    next-line _ c.loop-a.a c.loop-a.invariant
    (chain (put_as (ap (λ x. x ∷ []) c.tens.ensures) c.put_byte-end.ensures)
    (chain (chain (put_as (ap (λ x. x ∷ []) c.ones.ensures) c.put_byte-end-in-loop-a.ensures) c.put_byte-end-in-loop-a-2.ensures)
    (chain c.put_signs-end.ensures c.put_byte-end-in-loop-a-3.ensures)))

pub returns : goal.returns
returns c = put_as (ap (rows _ _) (omega arith)) c.loop-a.invariant
