-- `text::words::read_number` meets its contract: the digits passed are n's, and those left go on from it. Assumes nothing.
use native.Mathlib.Omega.{arith}
use mathlib.Core.Path.{sym, ◌∙◌}
use borrow.Author.Tests.{eqb-true, eqb-false}
use Rattle.text.proofs.Numbers.{digit-test, from-large, at_more, at_other, at-end, number-none, number-some}
use Rattle.text.proofs.words.read_number.Goals as goal

pub returns-then-is_empty : goal.returns-then-is_empty
returns-then-is_empty c = sym (number-none _ (eqb-true _ _ (sym c.is_empty.ensures ∙ c.if-is_empty.true)))

pub loop-x-init : goal.loop-x-init
loop-x-init c = (omega arith, number-some _ (eqb-false _ _ (sym c.is_empty.ensures ∙ c.if-is_empty.false)))

pub returns-then-not-is_ascii_digit : goal.returns-then-not-is_ascii_digit
returns-then-not-is_ascii_digit c =
    sym (c.loop-x.invariant.1 ∙ at_other c.args.w.now c.loop-x.x-index c.loop-x.n c.loop-x-test.true (sym (digit-test _) ∙ sym c.is_ascii_digit.ensures.value ∙ c.if-not-is_ascii_digit.true))

pub returns-then-n-gt-LARGEST : goal.returns-then-n-gt-LARGEST
returns-then-n-gt-LARGEST c =
    let d = sym (digit-test _) ∙ sym c.is_ascii_digit.ensures.value ∙ c.if-not-is_ascii_digit.false in
    sym (c.loop-x.invariant.1 ∙ at_more c.args.w.now c.loop-x.x-index c.loop-x.n _ c.loop-x-test.true d c.from.ensures ∙ from-large _ _ c.if-n-gt-LARGEST.true)

pub loop-x-preserved : goal.loop-x-preserved
loop-x-preserved c =
    let d = sym (digit-test _) ∙ sym c.is_ascii_digit.ensures.value ∙ c.if-not-is_ascii_digit.false in
    (c.if-n-gt-LARGEST.false, c.loop-x.invariant.1 ∙ at_more c.args.w.now c.loop-x.x-index c.loop-x.n _ c.loop-x-test.true d c.from.ensures)

pub returns : goal.returns
returns c = sym (c.loop-x.invariant.1 ∙ at-end c.args.w.now c.loop-x.x-index c.loop-x.n (omega arith) c.loop-x.invariant.0)
