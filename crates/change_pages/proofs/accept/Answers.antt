-- `change_pages::accept` meets its contract. Assumes nothing.
use mathlib.Core.Path.{sym}
use lib.Seq.{length-take-le}
use Rattle.change_pages.proofs.Mades.{made-new}
use Rattle.change_pages.proofs.accept.Goals as goal

pub slice_bounds-write_line-end : goal.slice_bounds-write_line-end
slice_bounds-write_line-end c = sym (length-take-le _ _ c.requires)

pub returns : goal.returns
returns c = made-new _ _ _ _ _ c.requires c.write_line-written.ensures.page c.write_line-written.ensures.run_len_bound
