-- `records::keep_sheets` meets its contract: the front of the buffer is what the records passed leave. Assumes nothing.
use mathlib.Core.Path.{refl}
use native.Mathlib.Omega.{arith}
use Rattle.records.specs.Kept.{on_sheet}
use Rattle.records.proofs.Keeps.{written_none, written-more, written-few, written-sheets}
use Rattle.records.proofs.keep_sheets.Goals as goal

pub loop-i-init : goal.loop-i-init
loop-i-init c = (omega arith, written_none on_sheet _ _)

pub copy_where-at-requires : goal.copy_where-at-requires
copy_where-at-requires c = (omega arith, omega arith)

pub loop-i-preserved : goal.loop-i-preserved
loop-i-preserved c =
    let w = written-more on_sheet _ _ _ _ _ _ _ _ _ c.loop-i.invariant.1 c.record_at-r.ensures refl c.copy_where-at.ensures.0 c.copy_where-at.ensures.1 in
    (written-few on_sheet _ _ _ _ _ w (omega arith), w)

pub returns : goal.returns
returns c = written-sheets _ _ _ _ _ (omega arith) (omega arith) c.loop-i.invariant.1
