-- `change_pages::refuse` meets its contract. Assumes nothing.
use Rattle.sentences.proofs.Tellings.{put-page}
use Rattle.change_pages.proofs.Mades.{made_kept}
use Rattle.change_pages.proofs.refuse.Goals as goal

pub returns : goal.returns
returns c =
    let u = c.put_refused_book-end.ensures in
    let w = put-page {most = 142} (u.put, u.book_len_bound) c.finish-written.ensures in
    made_kept _ _ _ _ w.0 w.1
