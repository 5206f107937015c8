-- `change_pages::write_converted` meets its contract. Assumes nothing.
use mathlib.Core.Path.{sym}
use lib.Seq.{length-take-le}
use Rattle.sentences.proofs.Tellings.{took-bytes, took-unread}
use Rattle.change_pages.proofs.Mades.{made_as, made_none}
use Rattle.change_pages.proofs.Books.{convert-unread, convert-read}
use Rattle.change_pages.proofs.write_converted.Goals as goal

pub slice_bounds-book-end : goal.slice_bounds-book-end
slice_bounds-book-end c = (took-bytes _ _ c.in-Ok.is c.read_source-read.ensures).0

pub slice_bounds-convert_book-end : goal.slice_bounds-convert_book-end
slice_bounds-convert_book-end c = sym (length-take-le _ _ (took-bytes _ _ c.in-Ok.is c.read_source-read.ensures).0)

pub returns-in-Err : goal.returns-in-Err
returns-in-Err c =
    made_none _ _ _ _ _ (made_as (convert-unread _ _ _ (took-unread _ _ c.in-Err.is c.read_source-read.ensures)) c.tell.ensures)

pub returns-in-Ok : goal.returns-in-Ok
returns-in-Ok c = made_as (convert-read _ _ (took-bytes _ _ c.in-Ok.is c.read_source-read.ensures).1) c.convert_book.ensures
