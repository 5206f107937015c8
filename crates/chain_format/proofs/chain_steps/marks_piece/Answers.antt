use borrow.Author.Tests.{ne_eqb}
use mathlib.Core.Path.{◌∙◌}
-- `chain_steps::marks_piece` meets its contract. Assumes nothing.
use Rattle.chain_format.proofs.Computed.{marks-beyond, marks-no, marks-it}
use native.Mathlib.Omega.{arith}
use Rattle.chain_format.proofs.chain_steps.marks_piece.Goals as goal

pub returns-then-book-i : goal.returns-then-book-i
returns-then-book-i c = λ claim. marks-beyond claim _ _ _ c.if-book-i.true

pub returns-then-r-eq-VOID : goal.returns-then-r-eq-VOID
returns-then-r-eq-VOID c = λ claim. marks-it claim _ _ _ (omega arith) _ c.record_at-r.ensures c.if-r-eq-VOID.true

pub returns-else-r-eq-VOID : goal.returns-else-r-eq-VOID
returns-else-r-eq-VOID c = λ claim. ne_eqb _ _ c.if-r-eq-VOID.false ∙ marks-no claim _ _ _ (omega arith) _ c.record_at-r.ensures c.if-r-eq-VOID.false
