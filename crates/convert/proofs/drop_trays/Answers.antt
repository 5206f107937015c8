-- `convert::drop_trays` meets its contract: the front of the buffer is what the records passed leave. Assumes nothing.
use mathlib.Core.Path.{refl}
use native.Mathlib.Omega.{arith}
use Rattle.convert.specs.Converted.{no_tray}
use Rattle.records.proofs.Keeps.{written_none, written-more, written-few}
use Rattle.convert.proofs.Writes.{written-trays}
use Rattle.convert.proofs.drop_trays.Goals as goal

pub loop-i-init : goal.loop-i-init
loop-i-init c = (omega arith, written_none no_tray _ _)

pub loop-i-preserved : goal.loop-i-preserved
loop-i-preserved c =
    let w = written-more no_tray _ _ _ _ _ _ _ _ _ c.loop-i.invariant.1 c.record_at-r.ensures refl c.copy_where-at.ensures.0 c.copy_where-at.ensures.1 in
    (written-few no_tray _ _ _ _ _ w (omega arith), w)

pub returns : goal.returns
returns c = written-trays _ _ _ _ _ (omega arith) (omega arith) c.loop-i.invariant.1
