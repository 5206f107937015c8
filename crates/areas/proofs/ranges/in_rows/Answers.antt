-- `ranges::in_rows` meets its contract: the invariant is that no pair passed lies inside. Assumes nothing.
use Prim.Native.Nat.{◌+◌, ◌*◌}
use mathlib.Core.Path.{ap₂, sym, ◌∙◌}
use native.Mathlib.Omega.{arith}
use lib.ListN.{get_or}
use Rattle.lists.proofs.Anys.{below-hit}
use Rattle.areas.specs.Between.{inside}
use Rattle.areas.proofs.Searches.{row_below, none_passes, none_above}
use Rattle.areas.proofs.ranges.in_rows.Goals as goal

pub loop-i-init : goal.loop-i-init
loop-i-init c = λ R j l. row_below _ _ _ _ _ _ (c.first_row-i.ensures.1 R j l)

pub returns-then-rows-row : goal.returns-then-rows-row
returns-then-rows-row c =
    let A = c.args in
    let L = c.loop-i in
    none_above A.area.now A.count A.rows.from.0 A.rows.to.0 A.columns.from.0 A.columns.to.0 L.i (omega arith) (omega (arith, c.from.ensures)) L.invariant

pub returns-then-lies_inside : goal.returns-then-lies_inside
returns-then-lies_inside c =
    let A = c.args in
    let L = c.loop-i in
    let row = c.from.ensures in
    let column = c.from-in-loop-i.ensures in
    λ R. sym (below-hit (λ j. inside A.rows.from.0 A.rows.to.0 A.columns.from.0 A.columns.to.0 (get_or A.area.now (2 * j) 0) (get_or A.area.now (2 * j + 1) 0)) A.count L.i (omega arith) (sym (ap₂ (inside A.rows.from.0 A.rows.to.0 A.columns.from.0 A.columns.to.0) row column) ∙ sym c.lies_inside.ensures ∙ c.if-lies_inside.true))

pub returns : goal.returns
returns c =
    let A = c.args in
    let L = c.loop-i in
    λ R. none_passes (λ j. inside A.rows.from.0 A.rows.to.0 A.columns.from.0 A.columns.to.0 (get_or A.area.now (2 * j) 0) (get_or A.area.now (2 * j + 1) 0)) A.count (λ j l. L.invariant R j (omega arith))
