use borrow.Author.Rules.{rules}
use Rattle.grids.proofs.Growing.{grown-more, room-less, unequal}
use Rattle.grids.proofs.rounds.close.Goals as goal

pub loop-next-smaller : goal.loop-next-smaller
loop-next-smaller c = room-less _ _ c.loop-next.invariant.0 (search rules) c.round-next.ensures.grown (unequal _ _ c.if-eq.ensures)

pub loop-next-preserved : goal.loop-next-preserved
loop-next-preserved c = (search rules, grown-more _ _ _ c.loop-next.invariant.1 c.round-next.ensures.grown)
