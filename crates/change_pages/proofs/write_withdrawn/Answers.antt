-- `change_pages::write_withdrawn` meets its contract. Assumes nothing.
use mathlib.Core.Path.{sym}
use lib.Seq.{length-take-le}
use Rattle.change_pages.proofs.Mades.{made_as, made_none}
use Rattle.change_pages.proofs.Orders.{ordered-edit, ordered-unread, edit-short, withdraw-unread, withdrawn-is}
use Rattle.change_pages.proofs.write_withdrawn.Goals as goal

pub slice_bounds-withdraw-end : goal.slice_bounds-withdraw-end
slice_bounds-withdraw-end c = sym (length-take-le _ _ (ordered-edit _ _ _ _ c.read_order-read.ensures _ c.in-Ok.is).0)

pub withdraw-requires : goal.withdraw-requires
withdraw-requires c = edit-short _ _ _ _ (ordered-edit _ _ _ _ c.read_order-read.ensures _ c.in-Ok.is)

pub returns-in-Err : goal.returns-in-Err
returns-in-Err c =
    made_none _ _ _ _ _ (made_as (withdraw-unread _ _ _ (ordered-unread _ _ _ _ c.read_order-read.ensures _ c.in-Err.is)) c.tell_order.ensures)

pub returns-in-Ok : goal.returns-in-Ok
returns-in-Ok c =
    made_as (withdrawn-is _ _ _ (ordered-edit _ _ _ _ c.read_order-read.ensures _ c.in-Ok.is)) c.withdraw.ensures
