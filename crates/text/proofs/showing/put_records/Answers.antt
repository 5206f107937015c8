-- `text::showing::put_records` meets its contract. Assumes nothing.
use native.Mathlib.Omega.{arith}
use mathlib.Core.Path.{◌≡◌, ap}
use Rattle.records.specs.Record.{records}
use Rattle.pages.specs.Lines.{lines}
use Rattle.pages.proofs.Puts.{put_as}
use Rattle.pages.proofs.Lined.{no_line, next-line}
use Rattle.text.specs.Shown.{show_record, show_records}
use Rattle.text.proofs.showing.put_records.Invariants.{line}
use Rattle.text.proofs.showing.put_records.Goals as goal

pub loop-i-init : goal.loop-i-init
loop-i-init c = no_line _

pub loop-i-preserved : goal.loop-i-preserved
loop-i-preserved c =
    let a = c.args in next-line (line a.choice.now a.s.now) c.loop-i.i c.loop-i.invariant (put_as (ap (show_record a.choice.now) c.record_at.ensures) c.put_record-end.ensures)

pub returns : goal.returns
unfolding show_records
returns c =
    let a = c.args in let e : c.loop-i.i ≡ records a.s.now = omega arith in put_as (ap (lines (line a.choice.now a.s.now)) e) c.loop-i.invariant
