-- `contradicted::write_contradiction` meets its contract, by the source. Assumes nothing.
use mathlib.Core.Path.{sym}
use lib.Seq.{length-take-le}
use Rattle.sentences.proofs.Tellings.{took-bytes, took-unread}
use Rattle.chain_pages.proofs.Clashes.{clash-unread, clash_read}
use Rattle.chain_pages.proofs.contradicted.write_contradiction.Goals as goal

pub slice_bounds-book-end : goal.slice_bounds-book-end
slice_bounds-book-end c = (took-bytes _ _ c.in-Ok.is c.read_source-read.ensures).0

pub slice_bounds-clash_book-end : goal.slice_bounds-clash_book-end
slice_bounds-clash_book-end c = sym (length-take-le _ _ ((took-bytes _ _ c.in-Ok.is c.read_source-read.ensures).0))

pub returns-in-Err : goal.returns-in-Err
returns-in-Err c = clash-unread _ _ _ _ (took-unread _ _ c.in-Err.is c.read_source-read.ensures) (c.write_unread_of.ensures.page, c.write_unread_of.ensures.unread_len_bound)

pub returns-in-Ok : goal.returns-in-Ok
returns-in-Ok c =
    clash_read _ _ _ _ c.finish.ensures (took-bytes _ _ c.in-Ok.is c.read_source-read.ensures).1 c.clash_book-end.ensures
