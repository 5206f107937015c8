-- `sentences::write_unread` meets its contract. Assumes nothing.
use Rattle.sentences.proofs.Tellings.{put-page}
use Rattle.sentences.proofs.write_unread.Goals as goal

pub returns-clause-page : goal.returns-clause-page
returns-clause-page c = (put-page (c.put_unread-end.ensures.put, c.put_unread-end.ensures.reason_len_bound) c.finish.ensures).0
