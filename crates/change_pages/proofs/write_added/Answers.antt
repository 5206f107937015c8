-- `change_pages::write_added` meets its contract. Assumes nothing.
use mathlib.Core.Path.{sym}
use lib.Seq.{length-take-le}
use Rattle.change_pages.proofs.Mades.{made_as, made_none}
use Rattle.change_pages.proofs.Orders.{ordered-edit, ordered-unread, edit-short, add-unread, added}
use Rattle.change_pages.proofs.write_added.Goals as goal

pub slice_bounds-extend-end : goal.slice_bounds-extend-end
slice_bounds-extend-end c = sym (length-take-le _ _ (ordered-edit _ _ _ _ c.read_order-read.ensures _ c.in-Ok.is).0)

pub extend-requires : goal.extend-requires
extend-requires c = edit-short _ _ _ _ (ordered-edit _ _ _ _ c.read_order-read.ensures _ c.in-Ok.is)

pub returns-in-Err : goal.returns-in-Err
returns-in-Err c =
    made_none _ _ _ _ _ (made_as (add-unread _ _ _ (ordered-unread _ _ _ _ c.read_order-read.ensures _ c.in-Err.is)) c.tell_order.ensures)

pub returns-in-Ok : goal.returns-in-Ok
returns-in-Ok c =
    made_as (added _ _ _ (ordered-edit _ _ _ _ c.read_order-read.ensures _ c.in-Ok.is) _ c.six_bytes-six.ensures) c.extend.ensures
