-- `change_pages::write_packed` meets its contract. Assumes nothing.
use Rattle.sentences.proofs.Tellings.{took-bytes, took-unread}
use Rattle.change_pages.proofs.Mades.{made_as, made_none}
use Rattle.change_pages.proofs.Books.{pack-unread, packed}
use Rattle.change_pages.proofs.write_packed.Goals as goal

pub settle-requires : goal.settle-requires
settle-requires c = (took-bytes _ _ c.in-Ok.is c.read_source-read.ensures).0

pub returns-in-Err : goal.returns-in-Err
returns-in-Err c =
    made_none _ _ _ _ _ (made_as (pack-unread _ _ _ (took-unread _ _ c.in-Err.is c.read_source-read.ensures)) c.tell.ensures)

pub returns-in-Ok : goal.returns-in-Ok
returns-in-Ok c = made_as (packed _ _ (took-bytes _ _ c.in-Ok.is c.read_source-read.ensures).1) c.settle.ensures
