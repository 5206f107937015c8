-- `clash::check_clash` meets its contract. Assumes nothing.
use mathlib.Core.Path.{sym, ◌∙◌}
use Rattle.clash.proofs.Replies.{checked-book}
use Rattle.clash.proofs.check_clash.Goals as goal

pub check_sound-requires : goal.check_sound-requires
check_sound-requires c = sym c.in-Ok.ensures

pub returns-in-Err : goal.returns-in-Err
returns-in-Err c = checked-book _ _ _ _ (sym c.in-Err.ensures)

pub returns-in-Ok : goal.returns-in-Ok
returns-in-Ok c = c.check_sound.ensures
