-- `text::reading::entry_line` meets its contract: the entry is as far off as the lines passed leave. Assumes nothing.
use native.Mathlib.Omega.{arith}
use Prim.Native.Nat.{◌≤◌}
use lib.ListN.{length}
use Rattle.text.specs.declared.words.Sort.TheVariants.{Inner}
use Rattle.text.specs.Runs.{of_sort}
use Rattle.text.proofs.Runs.{ends-in}
use Rattle.text.proofs.Places.{seeking-start, seeking-found, seeking-on, seeking-end}
use Rattle.text.proofs.reading.entry_line.Goals as goal

pub loop-at-init : goal.loop-at-init
loop-at-init c = (seeking-start _ _ _ c.mark_length-at.ensures, omega arith)

pub slice_bounds-entries_on-end : goal.slice_bounds-entries_on-end
slice_bounds-entries_on-end c =
    let ended : (c.loop-at.at ≤ c.run_end-end.result) × (c.run_end-end.result ≤ length c.args.text.now) = ends-in (of_sort Inner) _ _ _ (omega arith) c.run_end-end.ensures in
    omega (arith, ended)

pub returns-then-left-n : goal.returns-then-left-n
returns-then-left-n c =
    seeking-found _ _ _ _ _ c.loop-at.invariant.0 _ (omega arith) c.run_end-end.ensures _ c.entries_on-n.ensures c.if-left-n.true

pub loop-at-preserved : goal.loop-at-preserved
loop-at-preserved c =
    let ended : (c.loop-at.at ≤ c.run_end-end.result) × (c.run_end-end.result ≤ length c.args.text.now) = ends-in (of_sort Inner) _ _ _ (omega arith) c.run_end-end.ensures in
    (seeking-on _ _ _ _ _ c.loop-at.invariant.0 _ (omega arith) c.run_end-end.ensures _ c.entries_on-n.ensures c.if-left-n.false, omega (arith, ended))

pub returns : goal.returns
returns c = seeking-end _ _ c.loop-at.at c.loop-at.line c.loop-at.left c.loop-at.invariant.0 (omega arith)
