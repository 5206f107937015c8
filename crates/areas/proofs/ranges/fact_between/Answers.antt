-- `ranges::fact_between` meets its contract: one order, and in unordered kinds the other. Assumes nothing.
use mathlib.Core.Path.{sym, ◌∙◌}
use native.Mathlib.Omega.{arith}
use Rattle.lists.proofs.Bools.{left_or}
use Rattle.areas.proofs.Filled.{left-rises, left-long, left-between, neither, other}
use Rattle.areas.proofs.ranges.fact_between.Goals as goal

pub returns-then-area-count : goal.returns-then-area-count
returns-then-area-count c =
    let A = c.args in
    λ p old e k. absurd (omega (arith, left-long p 104857600 old A.area.now A.count e k))

pub returns-then-in_rows : goal.returns-then-in_rows
returns-then-in_rows c =
    let A = c.args in
    λ p old e k. c.if-in_rows.true ∙ sym (left-between p 104857600 old A.area.now A.count e k A.unordered A.rows.from.0 A.rows.to.0 A.columns.from.0 A.columns.to.0 ∙ left_or _ (sym (c.in_rows.ensures (left-rises p 104857600 old A.area.now A.count e k)) ∙ c.if-in_rows.true))

pub returns-else-unordered : goal.returns-else-unordered
returns-else-unordered c =
    let A = c.args in
    λ p old e k. c.if-unordered.false ∙ sym (left-between p 104857600 old A.area.now A.count e k A.unordered A.rows.from.0 A.rows.to.0 A.columns.from.0 A.columns.to.0 ∙ neither _ (sym (c.in_rows.ensures (left-rises p 104857600 old A.area.now A.count e k)) ∙ c.if-in_rows.false) (c.if-unordered.false))

pub returns-then-unordered : goal.returns-then-unordered
returns-then-unordered c =
    let A = c.args in
    λ p old e k. let R = left-rises p 104857600 old A.area.now A.count e k in sym (left-between p 104857600 old A.area.now A.count e k A.unordered A.rows.from.0 A.rows.to.0 A.columns.from.0 A.columns.to.0 ∙ other (sym (c.in_rows.ensures R) ∙ c.if-in_rows.false) (c.if-unordered.true) (c.in_rows-then-unordered.ensures R))
