-- `replicates::find_aparts` meets its contract. Assumes nothing.
use mathlib.Core.Path.{sym}
use Rattle.contradiction.proofs.SettlingLaws.{settleable}
use borrow.Author.Rules.{rules}
use Rattle.replicates.proofs.find_aparts.Goals as goal

pub apart_rows-requires : goal.apart_rows-requires
apart_rows-requires c =
    let P = c.requires in
    ((settleable _ _ P.sound).bounded, P.void.0, P.steps, P.parts, search rules, search rules, sym P.free)
