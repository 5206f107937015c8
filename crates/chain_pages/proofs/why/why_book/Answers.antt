-- `why::why_book` meets its contract: the text of the reply and of the steps that were written. Assumes nothing.
use native.Mathlib.Omega.{arith}
use Prim.Native.Nat.{◌*◌}
use mathlib.Core.Path.{◌∙◌, sym}
use lib.Seq.{length-take-le}
use Rattle.pages.proofs.Puts.{put_as}
use Rattle.pages.proofs.Writing.{write-page}
use Rattle.chain_pages.proofs.Chains.{whole}
use Rattle.chain_pages.proofs.Replies.{same_text}
use Rattle.chain_pages.proofs.why.why_book.Goals as goal

pub overflow_mul-n : goal.overflow_mul-n
overflow_mul-n c = omega (arith, c.write_chain-written.ensures.few)

pub slice_bounds-c-end : goal.slice_bounds-c-end
slice_bounds-c-end c = omega (arith, c.write_chain-written.ensures.few, c.write_chain-written.ensures.room)

pub slice_bounds-put_why-end : goal.slice_bounds-put_why-end
slice_bounds-put_why-end c = sym (length-take-le _ _ (omega (arith, c.write_chain-written.ensures.few, c.write_chain-written.ensures.room)))

pub put_why-end-requires : goal.put_why-end-requires
put_why-end-requires c =
    (λ a is. whole _ _ a (sym c.write_chain-written.ensures.reply-is ∙ is), omega (arith, length-take-le (10 * c.write_chain-written.result.steps) c.write_chain-written.new.steps (omega (arith, c.write_chain-written.ensures.few, c.write_chain-written.ensures.room)), c.write_chain-written.ensures.few))

pub returns : goal.returns
returns c =
    let same = same_text _ _ _ _ _ c.write_chain-written.ensures.reply-is in record { chain = _; bytes = c.put_why-end.ensures.bytes; behind = c.write_chain-written.ensures.behind; page-is = write-page _ (put_as same c.put_why-end.ensures.put) c.finish.ensures; short = rw same at c.put_why-end.ensures.c_len_bound }
