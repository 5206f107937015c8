-- `row_14::settle_book` meets its contract. Assumes nothing.
use borrow.Author.Rules.{rules}
use Rattle.records.proofs.Accepted.{accepted}
use Rattle.closure.proofs.VoidRows.{accepted-markable}
use Rattle.contradiction.proofs.SettlingLaws.{settleable}
use Rattle.contradiction.proofs.row_14.settle_book.Goals as goal

pub mark_voids-requires : goal.mark_voids-requires
mark_voids-requires c = (accepted-markable (accepted _ _ c.requires.0), search rules)

pub settle_run-requires : goal.settle_run-requires
settle_run-requires c = ((settleable _ _ c.requires.0).bounded, search rules)
