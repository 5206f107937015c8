-- `text::words::run_end` meets its contract: what is passed and what is left of the run make the whole. Assumes nothing.
use mathlib.Core.Path.{refl, sym, ◌∙◌}
use native.Mathlib.Omega.{arith}
use borrow.Author.Rules.{rules}
use Rattle.text.specs.Runs.{of_sort}
use Rattle.text.proofs.Runs.{runs_on, runs-off, runs-out}
use Rattle.text.proofs.words.run_end.Goals as goal

pub loop-i-init : goal.loop-i-init
loop-i-init c = refl

pub returns-then-not-is_of : goal.returns-then-not-is_of
returns-then-not-is_of c =
    let off = runs-off (of_sort c.args.sort) c.args.l.now c.loop-i.i (search rules) (sym c.is_of.ensures ∙ c.if-not-is_of.true) in
    omega arith

pub loop-i-preserved : goal.loop-i-preserved
loop-i-preserved c =
    let on = runs_on (of_sort c.args.sort) c.args.l.now c.loop-i.i (search rules) (sym c.is_of.ensures ∙ c.if-not-is_of.false) in
    omega arith

pub returns : goal.returns
returns c =
    let out = runs-out (of_sort c.args.sort) c.args.l.now c.loop-i.i (omega arith) in
    omega arith
