-- `checks::note` meets its contract. Assumes nothing.
use Rattle.records.proofs.Filters.{noted-second, noted-new}
use Rattle.records.proofs.checks.note.Goals as goal

pub returns-then-first : goal.returns-then-first
returns-then-first c =
    noted-second _ _ _ _ _ c.slot_of.ensures c.other_slot.ensures c.mark-first.ensures.1 c.mark-second.ensures.1 _ c.mark-second.ensures.0

pub returns-else-first : goal.returns-else-first
returns-else-first c =
    rw c.if-first.false (noted-new _ _ _ _ _ c.slot_of.ensures c.other_slot.ensures c.mark-first.ensures.1 c.mark-second.ensures.1 _ c.mark-first.ensures.0 c.if-first.false)
