-- `reading::read_head` meets its contract. Assumes nothing.
use Rattle.chain_pages.proofs.Finds.{head-found}
use Rattle.chain_pages.proofs.reading.read_head.Goals as goal

pub returns : goal.returns
returns c =
    head-found _ _ _ _ _ _ _ c.byte.ensures c.kind_by-kind.ensures c.number_behind-a.ensures c.number_behind-b.ensures c.byte-2.ensures c.origin_by-origin.ensures (rw c.from.ensures at c.byte-3.ensures) c.answer_by-answer.ensures
