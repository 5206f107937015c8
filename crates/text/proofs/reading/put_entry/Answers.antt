-- `text::reading::put_entry` meets its contract. Assumes nothing.
use Rattle.text.proofs.Entries.{two-copied, six-copied}
use Rattle.text.proofs.reading.put_entry.Goals as goal

pub returns-in-Log : goal.returns-in-Log
returns-in-Log c = two-copied _ _ _ _ _ c.in-Log.is _ _ c.low.ensures c.low-in-Log.ensures c.copy_to.ensures

pub returns : goal.returns
returns c =
    six-copied c.args.form _ _ _ _ c.in_default.not-Log _ _ _ _ c.low-2.ensures c.low-3.ensures c.low-4.ensures c.low-5.ensures c.copy_to-2.ensures
