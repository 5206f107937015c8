-- `certain::part_from` meets its contract: the invariant is that row 0 has the bits of the records passed. Assumes nothing.
use native.Mathlib.Omega.{arith}
use borrow.Author.Rules.{rules}
use Rattle.catalog.proofs.Telling.{parted-none, parted-more, apart-within}
use Rattle.catalog.proofs.certain.part_from.Goals as goal

pub loop-i-init : goal.loop-i-init
loop-i-init c = (search rules, parted-none _ _ _ _ c.clear_rows.ensures)

pub part_record-requires : goal.part_record-requires
part_record-requires c =
    let L = c.loop-i in
    (search rules, search rules, search rules, rw c.record_at-r.ensures (apart-within c.args.run.now 2048 c.requires.3 L.i (omega arith)))

pub loop-i-preserved : goal.loop-i-preserved
loop-i-preserved c =
    let L = c.loop-i in
    (search rules, parted-more _ _ _ _ _ L.i _ c.record_at-r.ensures c.part_record.ensures L.invariant.1)
