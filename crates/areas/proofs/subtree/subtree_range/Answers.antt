-- `subtree::subtree_range` meets its contract. Assumes nothing.
use Rattle.areas.proofs.Subtrees.{end-piece, range_none, range-some}
use Rattle.areas.proofs.subtree.subtree_range.Goals as goal

pub returns-then-end-eq0 : goal.returns-then-end-eq0
returns-then-end-eq0 c = range_none _ _ _ _ c.end_of-end.ensures c.if-end-eq0.true

pub place_of-place-requires : goal.place_of-place-requires
place_of-place-requires c = end-piece _ _ _ _ c.end_of-end.ensures c.if-end-eq0.false

pub returns : goal.returns
returns c = range-some _ _ _ _ _ c.end_of-end.ensures c.if-end-eq0.false c.place_of-place.ensures
