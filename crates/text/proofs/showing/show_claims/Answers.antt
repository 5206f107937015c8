-- `text::showing::show_claims` meets its contract. Assumes nothing.
use Rattle.pages.proofs.Writing.{write-page}
use Rattle.text.proofs.showing.show_claims.Goals as goal

pub returns : goal.returns
returns c = write-page _ c.put_records-end.ensures c.finish.ensures
