-- `piecebook::piecebook_replicates_with` meets its contract. Assumes nothing.
use Rattle.piecebook.proofs.Replicating.{replicated}
use Rattle.piecebook.proofs.piecebook_replicates_with.Goals as goal

pub shape_of-out : goal.shape_of-out
shape_of-out c = c.replicates-done.auto.out

pub returns : goal.returns
returns c = replicated _ _ _ _ _ _ _ c.replicates-done.ensures c.told-reply.ensures
