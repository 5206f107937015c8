-- `text::reading::read_lines` meets its contract: what is read and what the lines left come to make the whole. Assumes nothing.
use borrow.Author.Rules.{rules}
use native.Mathlib.Omega.{arith}
use Prim.Native.Nat.{◌≤◌}
use mathlib.Core.Path.{sym, ◌∙◌}
use lib.ListN.{length}
use Rattle.text.specs.declared.words.Sort.TheVariants.{Inner}
use Rattle.text.specs.Runs.{of_sort}
use Rattle.text.proofs.Runs.{ends-in}
use Rattle.text.proofs.Loops.{going_start, going-full, going_on, going-stop, going_end}
use Rattle.text.proofs.reading.read_lines.Goals as goal

pub loop-at-init : goal.loop-at-init
loop-at-init c = ((_, going_start _ _ _ _), search rules)

pub returns-then-done-most : goal.returns-then-done-most
returns-then-done-most c = going-full _ _ _ _ _ _ _ _ _ c.loop-at.invariant.0.1 (c.if-done-most.true ∙ c.bytes_most-most.ensures)

pub slice_bounds-take_line-end : goal.slice_bounds-take_line-end
slice_bounds-take_line-end c =
    let ended : (c.loop-at.at ≤ c.run_end-end.result) × (c.run_end-end.result ≤ length c.args.text.now) = ends-in (of_sort Inner) _ _ _ (omega arith) c.run_end-end.ensures in
    omega (arith, ended)

pub returns-in-Err : goal.returns-in-Err
returns-in-Err c =
    going-stop _ _ _ _ _ _ _ _ _ c.loop-at.invariant.0.1 (λ e. c.if-done-most.false (e ∙ sym c.bytes_most-most.ensures)) _ (omega arith) c.run_end-end.ensures _ _ c.take_line.ensures c.take_line.auto.out _ c.in-Err.is

pub loop-at-preserved : goal.loop-at-preserved
loop-at-preserved c =
    let ended : (c.loop-at.at ≤ c.run_end-end.result) × (c.run_end-end.result ≤ length c.args.text.now) = ends-in (of_sort Inner) _ _ _ (omega arith) c.run_end-end.ensures in
    (going_on _ _ _ _ _ _ _ _ _ c.loop-at.invariant.0.1 (λ e. c.if-done-most.false (e ∙ sym c.bytes_most-most.ensures)) _ (omega arith) c.run_end-end.ensures _ _ c.take_line.ensures c.take_line.auto.out _ c.in-Ok.is, omega (arith, ended))

pub returns : goal.returns
returns c = going_end _ _ _ _ _ _ _ _ _ c.loop-at.invariant.0.1 (omega arith)
