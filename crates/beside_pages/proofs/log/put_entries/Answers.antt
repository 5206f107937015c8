-- `beside_pages::put_entries` meets its contract. Assumes nothing.
use native.Mathlib.Omega.{arith}
use mathlib.Core.Path.{ap}
use Rattle.pages.proofs.Puts.{put_as}
use Rattle.beside_pages.specs.LogText.{entry_lines}
use Rattle.beside_pages.proofs.LogTexts.{no-entry, next-entry, entries-width}
use Rattle.beside_pages.proofs.log.put_entries.Goals as goal

pub loop-i-init : goal.loop-i-init
loop-i-init c = no-entry _ _

pub loop-i-preserved : goal.loop-i-preserved
loop-i-preserved c =
    next-entry c.args.log.now c.args.bytes.now c.loop-i.i _ c.number_at-piece.ensures.0 c.loop-i.invariant c.put_entry-end.ensures

pub returns : goal.returns
returns c =
    record { put = put_as (ap (entry_lines c.args.log.now c.args.bytes.now) (omega arith)) c.loop-i.invariant; log_len_bound = entries-width _ _ (λ j. (c.type_inv.log j).fits) (λ j. (c.type_inv.bytes j).fits) c.requires.1 }
