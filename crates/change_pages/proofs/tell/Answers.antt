-- `change_pages::tell` meets its contract. Assumes nothing.
use native.Mathlib.Omega.{arith}
use Rattle.change_pages.proofs.Mades.{made_kept}
use Rattle.change_pages.proofs.tell.Goals as goal

pub returns : goal.returns
returns c =
    made_kept _ _ _ _ c.write_unread_of-written.ensures.page (omega (arith, c.write_unread_of-written.ensures.unread_len_bound))
