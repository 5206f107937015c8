-- `why::why_source` meets its contract, by the source. Assumes nothing.
use mathlib.Core.Path.{sym}
use lib.Seq.{length-take-le}
use Rattle.sentences.proofs.Tellings.{took-bytes, took-unread}
use Rattle.chain_pages.proofs.Asking.{source-unread, source-read}
use Rattle.chain_pages.proofs.why.why_source.Goals as goal

pub slice_bounds-book-end : goal.slice_bounds-book-end
slice_bounds-book-end c = (took-bytes _ _ c.in-Ok.is c.read_source-read.ensures).0

pub slice_bounds-why_book-end : goal.slice_bounds-why_book-end
slice_bounds-why_book-end c = sym (length-take-le _ _ ((took-bytes _ _ c.in-Ok.is c.read_source-read.ensures).0))

pub returns-in-Err : goal.returns-in-Err
returns-in-Err c = source-unread _ _ _ _ _ (took-unread _ _ c.in-Err.is c.read_source-read.ensures) (c.write_unread_of.ensures.page, c.write_unread_of.ensures.unread_len_bound)

pub returns-in-Ok : goal.returns-in-Ok
returns-in-Ok c =
    source-read _ _ _ _ _ c.six_bytes-six.ensures (took-bytes _ _ c.in-Ok.is c.read_source-read.ensures).1 c.why_book.ensures
