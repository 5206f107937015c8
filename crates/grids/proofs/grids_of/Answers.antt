use Rattle.records.proofs.Accepted.{accepted}
use Rattle.closure.proofs.VoidRows.{accepted-markable}
use Rattle.grids.proofs.Agrees.{agrees}
use Rattle.grids.proofs.Starts.{loaded-marks}
use Rattle.grids.proofs.Griddings.{loadable, first_word}
use borrow.Author.Rules.{rules}
use Rattle.grids.proofs.grids_of.Goals as goal

pub mark_voids-requires : goal.mark_voids-requires
mark_voids-requires c = (accepted-markable (accepted _ _ c.requires.0), search rules)

pub load-requires : goal.load-requires
load-requires c = loadable _ _ c.requires.0 c.requires.1

pub returns : goal.returns
returns c =
    let w = loadable _ _ c.requires.0 c.requires.1 in
    let l = loaded-marks _ _ _ _ _ (first_word _ _ _ c.requires.1 c.mark_voids.ensures.1) c.load.ensures in
    agrees _ _ _ w.within w.some _ _ c.requires.1 l c.close.ensures.0 c.close.ensures.1
