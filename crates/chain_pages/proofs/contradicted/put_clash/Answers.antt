-- `contradicted::put_clash` meets its contract: the lines of the steps that were written. Assumes nothing.
use native.Mathlib.Omega.{arith}
use mathlib.Core.Path.{sym}
use lib.Seq.{length-take-le}
use Rattle.chain_pages.proofs.Clashes.{steps-put}
use Rattle.chain_pages.proofs.contradicted.put_clash.Goals as goal

pub overflow_mul-n : goal.overflow_mul-n
overflow_mul-n c = omega (arith, c.write_clash-written.ensures.few)

pub slice_bounds-c-end : goal.slice_bounds-c-end
slice_bounds-c-end c = omega (arith, c.write_clash-written.ensures.few, c.write_clash-written.ensures.room)

pub slice_bounds-put_lines-end : goal.slice_bounds-put_lines-end
slice_bounds-put_lines-end c = sym (length-take-le _ _ (omega (arith, c.write_clash-written.ensures.few, c.write_clash-written.ensures.room)))

pub returns : goal.returns
returns c =
    steps-put c.write_clash-written.ensures c.put_lines.ensures.bytes (length-take-le _ _ (omega (arith, c.write_clash-written.ensures.few, c.write_clash-written.ensures.room))) c.put_lines.ensures.put
