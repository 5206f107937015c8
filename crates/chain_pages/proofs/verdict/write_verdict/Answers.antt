-- `verdict::write_verdict` meets its contract, by the source. Assumes nothing.
use mathlib.Core.Path.{sym}
use lib.Seq.{length-take-le}
use Rattle.sentences.proofs.Tellings.{took-bytes, took-unread}
use Rattle.chain_pages.proofs.Verdicts.{verdict-unread, verdict-read}
use Rattle.chain_pages.proofs.verdict.write_verdict.Goals as goal

pub slice_bounds-book-end : goal.slice_bounds-book-end
slice_bounds-book-end c = (took-bytes _ _ c.in-Ok.is c.read_source-read.ensures).0

pub slice_bounds-verify-end : goal.slice_bounds-verify-end
slice_bounds-verify-end c = sym (length-take-le _ _ ((took-bytes _ _ c.in-Ok.is c.read_source-read.ensures).0))

pub returns-in-Err : goal.returns-in-Err
returns-in-Err c = verdict-unread _ _ _ _ _ (took-unread _ _ c.in-Err.is c.read_source-read.ensures) (c.write_unread_of.ensures.page, c.write_unread_of.ensures.unread_len_bound)

pub returns-in-Ok : goal.returns-in-Ok
returns-in-Ok c =
    verdict-read _ _ _ _ _ _ c.finish.ensures (took-bytes _ _ c.in-Ok.is c.read_source-read.ensures).1 c.verify-passes.ensures c.put_verdict-end.ensures
